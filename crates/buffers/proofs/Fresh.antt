-- A fresh buffer is well formed and means a store that holds nothing; with it, both answers of a set-up. Assumes nothing.
use mathlib.Core.Path.{◌≡◌, refl, sym, ap, subst, ◌∙◌}
use mathlib.Core.Bool.{true, false, ◌&&◌}
use mathlib.Core.List.{List}
use mathlib.Core.Option.{none}
use Prim.Native.Nat.{ℕ, zero, suc, ◌≤◌, ◌<◌}
use native.Mathlib.Nat.{not-suc-le-zero}
use native.Mathlib.Omega.{arith}
use lib.ListN.{length, get_or, replicate, length-replicate, get_or-replicate}
use Rattle.std.specs.Prelude.{Err}
use Rattle.numbers.proofs.Bytes.{by_bool}
use Rattle.columns.specs.Lists.{tab_i}
use Rattle.columns.specs.Rows.{rows_of}
use Rattle.index.specs.Names.{index_of_names, entered, no_names}
use Rattle.rules.specs.World.{joined, keep, first_of}
use Rattle.rules.specs.Queues.{all_msgs, internals, externals, held_ints, held_exts}
use Rattle.rules.specs.Calls.{answer, within, no_messages, set_up_buffer}
use Rattle.demands.proofs.TidyBuffer.{buffer_none}
use Rattle.demands.proofs.Fits.{in_range}
use Rattle.message.specs.Answers.{Done}
use Rattle.message.specs.declared.Refusal.TheVariants.{SetUp}
use Rattle.message.specs.Real.{Real}
use Rattle.message.proofs.Real.{real_lawful}
use Rattle.queues.specs.Cols.{Cols, Half, live, kept, number}
use Rattle.queues.specs.Meant.{order_of, buffer_of, meant}
use Rattle.queues.specs.Indexed.{Indexed}
use Rattle.queues.specs.Good.{Long, GoodHalf, Zeros, Blank, Good}
use Rattle.queues.specs.Append.{Left, left}
use Rattle.buffer_rules.specs.Ruled.{answer_of}
use Rattle.sizes.specs.declared.Size.{Size}
use Rattle.sizes.specs.Sizes.{size_for}
use Rattle.buffers.specs.declared.buffer.Buffer.{Buffer}
use Rattle.buffers.specs.Buffers.{cols_of, Gives, fresh_c, set_up_c}

zeros_of : (n first last : ℕ) → last ≤ n → Zeros (replicate n 0) first last
zeros_of n first last h i a b = get_or-replicate n i 0 0 (omega arith)

module _ (m a : ℕ) where
  lengths : Long (fresh_c m a)
  unfolding fresh_c
  lengths = record {
    owner = length-replicate {A = ℕ} 2048 0;
    kind = length-replicate {A = ℕ} 2048 0;
    form = length-replicate {A = ℕ} 2048 0;
    time = length-replicate {A = ℕ} 2048 0;
    address = length-replicate {A = ℕ} 65536 0;
    hash = length-replicate {A = ℕ} 65536 0;
    accounts = length-replicate {A = ℕ} 16384 0;
  }

  blank : Blank (fresh_c m a)
  unfolding fresh_c
  blank = record {
    owner = zeros_of 2048 0 1024 (omega arith);
    kind = zeros_of 2048 0 1024 (omega arith);
    form = zeros_of 2048 0 1024 (omega arith);
    time = zeros_of 2048 0 1024 (omega arith);
    address = zeros_of 65536 0 32768 (omega arith);
    hash = zeros_of 65536 0 32768 (omega arith);
    accounts = zeros_of 16384 0 8192 (omega arith);
    last = refl;
  }

  holds_nothing : buffer_of (live (fresh_c m a)) ≡ no_messages Real
  unfolding fresh_c order_of tab_i no_messages
  holds_nothing = refl

  empty : GoodHalf m a (live (fresh_c m a))
  unfolding fresh_c order_of tab_i held_ints held_exts internals externals all_msgs joined keep no_messages
  empty = record {
    messages = omega arith;
    places = omega arith;
    placed = λ i l. absurd (not-suc-le-zero l);
    kinds = λ i l. absurd (not-suc-le-zero l);
    forms = λ i l. absurd (not-suc-le-zero l);
    ints = refl;
    exts = refl;
    marked = omega arith;
    unmarked = λ e. refl;
    tidy = buffer_none Real real_lawful;
  }

  -- the index of no name is all zeros
  no_index : Indexed (fresh_c m a)
  unfolding fresh_c index_of_names entered no_names rows_of
  no_index = refl

  pub fresh_good : 1 ≤ m → m ≤ 1024 → 1 ≤ a → a ≤ 256 → Good (fresh_c m a)
  unfolding fresh_c
  fresh_good ml mh al ah = record {
    lengths = lengths;
    many = ap (λ (n : ℕ). suc (suc n)) (length-replicate {A = ℕ} 526 0);
    M·low = ml;
    M·high = mh;
    A·low = al;
    A·high = ah;
    now = empty;
    blank = blank;
    opened = omega arith;
    then = λ e. absurd (omega arith);
    index = no_index;
  }

-- ---- both answers
means : (m a : ℕ) → meant (fresh_c m a) ≡ record { M = m; A = a; now = no_messages Real; kept = none }
unfolding fresh_c order_of tab_i no_messages
means m a = refl

module _ (m a : ℕ) (b : Buffer) where
  set_up_done : within 1 1024 m ≡ true → within 1 256 a ≡ true → cols_of b ≡ fresh_c m a → Gives (set_up_buffer Real m a) (set_up_c m a) Done b
  unfolding set_up_c set_up_buffer answer first_of
  set_up_done p q e =
      let x = in_range 1 1024 m p in
      let y = in_range 1 256 a q in
      record {
        good = subst Good (sym e) (fresh_good m a x.0 x.1 y.0 y.1);
        ruled = ap (λ (c : Cols). answer_of (left Done c)) e ∙ rw (p, q, means m a);
        exactly = ap (left Done) e ∙ rw (p, q);
      }

  set_up_refused : (within 1 1024 m && within 1 256 a) ≡ false → cols_of b ≡ fresh_c 1 1 → Gives (set_up_buffer Real m a) (set_up_c m a) (Err SetUp) b
  unfolding set_up_c set_up_buffer answer first_of
  set_up_refused f e = record {
    good = subst Good (sym e) (fresh_good 1 1 (omega arith) (omega arith) (omega arith) (omega arith));
    ruled = ap (λ (c : Cols). answer_of (left (Err SetUp) c)) e ∙ rw (f, means 1 1);
    exactly = ap (left (Err SetUp)) e ∙ rw f;
  }

  sized : cols_of b ≡ fresh_c (size_for m a).messages (size_for m a).accounts → Gives (set_up_buffer Real m a) (set_up_c m a) (size_for m a).code b
  sized f =
      by_bool (within 1 1024 m)
      (λ p. by_bool (within 1 256 a)
      (λ q. let e : cols_of b ≡ fresh_c m a = f ∙ rw (p, q) in rw (p, q) (set_up_done p q e))
      (λ q. let e : cols_of b ≡ fresh_c 1 1 = f ∙ rw (p, q) in rw (p, q) (set_up_refused (rw (p, q)) e)))
      (λ p. let e : cols_of b ≡ fresh_c 1 1 = f ∙ rw p in rw p (set_up_refused (rw p) e))

  -- a buffer of the size that a set-up gives
  pub set_up_lem : {z : Size} → z ≡ size_for m a → cols_of b ≡ fresh_c z.messages z.accounts → Gives (set_up_buffer Real m a) (set_up_c m a) z.code b
  set_up_lem e f =
      subst (λ (s : Size). cols_of b ≡ fresh_c s.messages s.accounts → Gives (set_up_buffer Real m a) (set_up_c m a) s.code b) (sym e) sized f
