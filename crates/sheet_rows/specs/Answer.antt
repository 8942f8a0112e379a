-- What a sheet is answered by, and what its messages and fills leave, as the rules have it. Each definition stands under the words of document
-- 01 that it renders. The numbers of a line are read from a table of cells that has as many to a row as the line has. Assumes nothing.
use Rattle.std.specs.Prelude.{false, cond, not, Result, Ok, Err, List, [], ◌++◌, ℕ, zero, suc, ◌+◌, ◌*◌, eqb, get_or, replicate}
use Rattle.rules.specs.World.{Skip, Args, Filter.off, Filter.below, least_read}
use Rattle.rules.specs.Queues.{held_ints, held_exts, held_accounts}
use Rattle.rules.specs.Calls.{Store, Target, Answer, FillAnswer, set_up_buffer, set_up_group, add_message, fill_group}
use Rattle.numbers.specs.Bytes.{zeros}
use Rattle.message.specs.declared.Message.{Message}
use Rattle.message.specs.declared.Form.TheVariants.{Standard}
use Rattle.message.specs.Real.{Real, Key, offer}
use Rattle.columns.specs.Lists.{tab_i}
use Rattle.words.specs.Digits.{name_of}
use Rattle.group_reads.specs.Shown.{counts_of, line_for}
use Rattle.sections.specs.declared.Broken.{Broken}
use Rattle.text.specs.declared.sheet.Parsed.{Parsed}
use Rattle.answers.specs.Answer.{newline, broken_line, refusal, fill_line, left_line}

-- what a sheet works on
pub record Held : Type 0 where
  pub store : Store Real
  pub target : Target Real
  pub skipped : List (List ℕ)

-- the lines that a part of the sheet is answered by, and what is held behind it
pub record Told : Type 0 where
  pub text : List ℕ
  pub held : Held

abbrev pub told : List ℕ → Held → Told
told text held = record { text = text; held = held }

-- a part, and another behind it on what the first one leaves
abbrev pub and_then : Told → (Held → Told) → Told
and_then t f = told (t.text ++ (f t.held).text) (f t.held).held

-- "M 256, A 64, S 16"
unfoldable pub fresh : Held
fresh = record { store = (set_up_buffer Real 256 64).after; target = (set_up_group Real 16).after; skipped = [] }

-- ---- the messages

-- "messages `kind time account`"; "Verdict, kind and filter are 0 or 1", so what is not 0 is 1; "An account is .. big-endian in the last two
-- of 32 bytes, standard form; the n-th message's hash is n likewise"
unfoldable pub message_at : (cells : List ℕ) (i : ℕ) → Message
message_at cells i = record {
  kind = cond (eqb (get_or cells (3 * i) 0) 0) 0 1;
  special = false;
  form = Standard;
  address = name_of (get_or cells (3 * i + 2) 0);
  time = get_or cells (3 * i + 1) 0;
  hash = name_of (i + 1);
}

abbrev pub told_of : (number : ℕ) → Answer (Store Real) → Held → Told
told_of number a h = told (refusal number a.code) (record { store = a.after; target = h.target; skipped = h.skipped })

unfoldable pub added : Message → (number : ℕ) → Held → Told
added m number h = told_of number (add_message Real (offer m) h.store) h

-- the first n messages
unfoldable pub adds : (cells : List ℕ) (n : ℕ) → Held → Told
adds cells zero h = told [] h
adds cells (suc i) h = and_then (adds cells i h) (added (message_at cells i) (i + 1))

-- ---- the fills

-- "skip rows `account verdict cost`"
unfoldable pub skip_at : (cells : List ℕ) (i : ℕ) → Skip Real
skip_at cells i = record {
  acc = name_of (get_or cells (3 * i) 0);
  skip = not (eqb (get_or cells (3 * i + 1) 0) 0);
  cost = get_or cells (3 * i + 2) 0;
}

-- the first n skip rows
abbrev pub skips_at : (cells : List ℕ) (n : ℕ) → List (Skip Real)
skips_at cells n = tab_i n 0 (skip_at cells)

-- "fills `slots height filter threshold`"; "without a row the cost is 0"
unfoldable pub args_at : (rows : List (Skip Real)) (cells : List ℕ) (i : ℕ) → Args Real
args_at rows cells i = record {
  asked = get_or cells (4 * i) 0;
  height = get_or cells (4 * i + 1) 0;
  filter = cond (eqb (get_or cells (4 * i + 2) 0) 0) off (below (get_or cells (4 * i + 3) 0));
  rows = rows;
  cost = 0;
}

-- "key list of 256 rows"
unfoldable pub no_keys : List Key
no_keys = replicate 256 (record { lt = 0; hash = zeros })

-- "Per fill: number, code, messages collected, operations, externals dropped, then the group's Display line"
unfoldable pub fill_lines : (number code collected ops dropped : ℕ) → Target Real → List ℕ
fill_lines number code collected ops dropped t = fill_line number code collected ops dropped ++ (line_for (counts_of t) ++ newline)

abbrev pub told_by : (number : ℕ) → FillAnswer Real → Told
told_by number a =
    told (fill_lines number a.code a.collected a.ops a.dropped a.target)
    (record { store = a.store; target = a.target; skipped = a.skipped })

unfoldable pub filled : Args Real → (number : ℕ) → Held → Told
filled A number h = told_by number (fill_group Real A no_keys h.store h.target h.skipped)

-- "runs the fills on one group and one skipped set": the first n fills
unfoldable pub fills : (rows : List (Skip Real)) (cells : List ℕ) (n : ℕ) → Held → Told
fills rows cells zero h = told [] h
fills rows cells (suc i) h = and_then (fills rows cells i h) (filled (args_at rows cells i) (i + 1))

-- ---- the answer

-- "at the end, what the buffer holds and its minimum"
unfoldable pub left_of : Store Real → List ℕ
left_of s = left_line (held_ints Real s.now) (held_exts Real s.now) (held_accounts Real s.now) (least_read s.now.least)

-- "adds all, then runs the fills"
unfoldable pub played : Parsed → Told
played p = and_then (adds p.message p.messages fresh) (fills (skips_at p.skip p.skips) p.fill p.fills)

unfoldable pub play_lines : Parsed → List ℕ
play_lines p = (played p).text ++ left_of (played p).held.store

-- "At the first broken, missing or extra line .. it prints only `sheet line N`"
unfoldable pub answer_to : Result Parsed Broken → List ℕ
answer_to (Ok p) = play_lines p
answer_to (Err b) = broken_line b.line
