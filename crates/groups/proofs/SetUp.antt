-- Both answers of a set-up: a fresh group of the size asked for, or of size 1. Assumes nothing.
use mathlib.Core.Path.{◌≡◌, refl, sym, ap, subst, ◌∙◌}
use mathlib.Core.Bool.{true, false}
use Prim.Native.Nat.{ℕ}
use native.Mathlib.Omega.{arith}
use Rattle.std.specs.Prelude.{Err}
use Rattle.numbers.proofs.Bytes.{by_bool}
use Rattle.rules.specs.World.{first_of}
use Rattle.rules.specs.Calls.{Target, Answer, answer, within, set_up_group}
use Rattle.demands.proofs.Fits.{in_range}
use Rattle.message.specs.declared.Refusal.TheVariants.{SetUp}
use Rattle.message.specs.Answers.{Code, Done, number as number_of}
use Rattle.message.specs.Real.{Real}
use Rattle.sizes.specs.declared.Slots.{Slots}
use Rattle.sizes.specs.Sizes.{slots_for}
use Rattle.slots.specs.Table.{Table}
use Rattle.slots.specs.Meant.{meant}
use Rattle.slots.specs.Good.{Good}
use Rattle.slots.specs.Join.{fresh_t}
use Rattle.group_rules.proofs.FreshRule.{fresh_good, fresh_is}
use Rattle.groups.specs.declared.group.Group.{Group}
use Rattle.groups.specs.Groups.{table_of, SetsUp}

abbrev answered : ℕ → Table → Answer (Target Real)
answered c t = record { code = c; after = meant t }

module _ (S : ℕ) (g : Group) where
  set_up_done : within 1 64 S ≡ true → table_of g ≡ fresh_t S → SetsUp S Done g
  unfolding set_up_group answer first_of
  set_up_done p e =
      let x = in_range 1 64 S p in
      record {
        good = subst Good (sym e) (fresh_good S x.0 x.1);
        ruled = ap (answered 0) e ∙ rw (fresh_is S, p);
        exactly = e ∙ rw p;
      }

  set_up_refused : within 1 64 S ≡ false → table_of g ≡ fresh_t 1 → SetsUp S (Err SetUp) g
  unfolding set_up_group answer first_of
  set_up_refused f e = record {
    good = subst Good (sym e) (fresh_good 1 (omega arith) (omega arith));
    ruled = ap (answered 1) e ∙ rw (fresh_is 1, f);
    exactly = e ∙ rw f;
  }

  pub set_up_lem : {z : Slots} → z ≡ slots_for S → table_of g ≡ fresh_t z.slots → SetsUp S z.code g
  set_up_lem {z} p e =
      by_bool (within 1 64 S)
      (λ y. by (record { code = Done; slots = S }) (p ∙ rw y) (set_up_done y))
      (λ n. by (record { code = Err SetUp; slots = 1 }) (p ∙ rw n) (set_up_refused n))
    where
      by : (x : Slots) → z ≡ x → (table_of g ≡ fresh_t x.slots → SetsUp S x.code g) → SetsUp S z.code g
      by x q h = subst (λ (y : Slots). SetsUp S y.code g) (sym q) (h (e ∙ ap (λ (y : Slots). fresh_t y.slots) q))
