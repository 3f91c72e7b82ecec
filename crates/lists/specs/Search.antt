-- "Lists searched by key": the first index that passes a test, and how many do. Every search of the library is this one, with another test.
-- Assumes nothing.
use Rattle.std.specs.Prelude.{Bool, true, false, ◌&&◌, List, ℕ, zero, suc, ◌+◌, ◌-◌, eqb, ltb, length, get_or}

-- the first of the m indices k, k + 1, .. that passes p; k + m where none does
unfoldable pub seek : (ℕ → Bool) → ℕ → ℕ → ℕ
seek p k zero = k
seek p k (suc m) = elim (p k) [ true ↦ k | false ↦ seek p (suc k) m ]

-- the first index from k on, below n, that passes p; where none does n, or k if that is larger
unfoldable pub first : (ℕ → Bool) → ℕ → ℕ → ℕ
first p k n = seek p k (n - k)

-- some index below n passes p
abbrev pub has : (ℕ → Bool) → ℕ → Bool
has p n = ltb (first p 0 n) n

-- some entry of the list is the node n
abbrev pub named : List ℕ → ℕ → Bool
named nodes n = has (λ k. eqb (get_or nodes k 0) n) (length nodes)

-- every index below n passes p
unfoldable pub every : ℕ → (ℕ → Bool) → Bool
every zero p = true
every (suc n) p = every n p && p n

-- a passed test counts one
abbrev pub bit : Bool → ℕ
bit true = 1
bit false = 0

-- how many of the indices below n pass p
unfoldable pub many : (ℕ → Bool) → ℕ → ℕ
many p zero = 0
many p (suc n) = bit (p zero) + many (λ i. p (suc i)) n
