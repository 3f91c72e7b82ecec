-- A search by halving, for a test that all those behind a passed one pass too. Assumes nothing.
use mathlib.Core.Path.{◌≡◌, refl, sym, ap, ◌∙◌}
use mathlib.Core.Bool.{Bool, true, false, true≢false}
use Prim.Native.Nat.{ℕ, ◌+◌, ◌-◌, ◌/◌, ◌≤◌, ◌<◌}
use native.Mathlib.Decide.{ℕ_discrete}
use native.Mathlib.Omega.{arith}
use Rattle.lists.specs.Search.{first}
use Rattle.lists.proofs.Search.{first_turn}

-- all those behind a passed one pass
abbrev pub Turns : (ℕ → Bool) → ℕ → Type 0
Turns p n = (i j : ℕ) → i < j → j < n → p i ≡ true → p j ≡ true

-- the test turns from lo to hi: those below lo fail, those from hi on pass
pub record Between (p : ℕ → Bool) (n lo hi : ℕ) : Type 0 where
  pub order : lo ≤ hi
  pub within : hi ≤ n
  pub fail : (i : ℕ) → i < lo → p i ≡ false
  pub pass : (i : ℕ) → hi ≤ i → i < n → p i ≡ true

-- the index that is looked at next
abbrev pub middle : ℕ → ℕ → ℕ
middle lo hi = lo + (hi - lo) / 2

module _ (p : ℕ → Bool) (n : ℕ) where
  pub between_start : Between p n 0 n
  between_start = record { order = omega arith; within = omega arith; fail = λ i h. absurd (omega arith); pass = λ i h l. absurd (omega arith) }

  module _ (turns : Turns p n) (lo hi : ℕ) (b : Between p n lo hi) (left : lo < hi) where
    -- it passes
    pub between_lower : p (middle lo hi) ≡ true → Between p n lo (middle lo hi)
    between_lower e = record { order = omega arith; within = omega (arith, b.within); fail = b.fail; pass = λ i h l. at i l (ℕ_discrete (middle lo hi) i) h }
      where
        at : (i : ℕ) → i < n → Dec (middle lo hi ≡ i) → middle lo hi ≤ i → p i ≡ true
        at i l (yes q) h = ap p (sym q) ∙ e
        at i l (no q) h = turns (middle lo hi) i (omega arith) l e

    -- it fails
    pub between_upper : p (middle lo hi) ≡ false → Between p n (middle lo hi + 1) hi
    between_upper e = record { order = omega arith; within = b.within; fail = λ i h. at i h (ℕ_discrete i (middle lo hi)) (p i) refl; pass = b.pass }
      where
        at : (i : ℕ) → i < middle lo hi + 1 → Dec (i ≡ middle lo hi) → (t : Bool) → p i ≡ t → p i ≡ false
        at i h d false q = q
        at i h (yes d) true q = ap p d ∙ e
        at i h (no d) true q = absurd (true≢false (sym (turns i (middle lo hi) (omega arith) (omega (arith, b.within)) q) ∙ e))

  pub between_end : (lo hi : ℕ) → Between p n lo hi → hi ≤ lo → (lo ≡ first p 0 n) × (lo ≤ n)
  between_end lo hi b h = (first_turn p 0 lo n (omega arith) (omega (arith, b.order, b.within)) (λ i _ l. b.fail i l) (λ l. b.pass lo h l), omega (arith, b.order, b.within))
