-- Two rows compared from the lowest cell up: what is known after i cells, and how one more cell changes it. Assumes nothing.
use mathlib.Core.Path.{◌≡◌, refl, sym, ap, ap₂, ◌∙◌, subst}
use mathlib.Core.List.{List, [], ◌∷◌}
use Prim.Native.Nat.{ℕ, zero, suc, ◌+◌, ◌*◌, ◌/◌, ◌%◌, ◌^◌, ◌≤◌, ◌<◌}
use native.Mathlib.Nat.{not-suc-le-zero, le_of_suc-le-suc, add_assoc, add-mul, mul_assoc, mod-lt, div-add-mod'}
use native.Mathlib.Numerals.{add-one}
use native.Mathlib.Omega.{arith}
use lib.ListN.{length, get_or, take}
use lib.Seq.{take_all}
use lib.Pow.{pow_pos}
use lib.Arith.{digits_lt, digits_div, digits_mod}
use Rattle.exact.specs.Exact.{ordered}
use Rattle.exact.specs.InnerCells.{value, greatest}
use Rattle.exact.specs.InnerRows.{fullest}
use Rattle.exact.specs.declared.rows.Rows.{Rows}
use Rattle.std.specs.declared.cmp.Ordering.{Ordering}
use Rattle.std.specs.declared.cmp.Ordering.TheVariants.{Equal}
use Rattle.std.specs.Ordering.{nat_cmp, ordering_then}
use Rattle.exact.proofs.Orders.{ordered_equal, by_digit}
use Rattle.exact.proofs.Cells.{place, weigh, get_le}

pub value_take : (xs : List ℕ) (i : ℕ) → i < length xs → value (take (suc i) xs) ≡ value (take i xs) + get_or xs i 0 * 2 ^ (32 * i)
unfolding value
value_take [] i h = absurd (not-suc-le-zero h)
value_take (x ∷ xs) zero h = omega arith
value_take (x ∷ xs) (suc i) h = omega (arith, value_take xs i (le_of_suc-le-suc h), weigh (get_or xs i 0) i)

-- ---- W + x * M, by what is below M and above it

module _ (W x M : ℕ) (h : 0 < M) where
  digits : W + x * M ≡ (x + W / M) / 2 ^ 32 * (2 ^ 32 * M) + ((x + W / M) % 2 ^ 32 * M + W % M)
  digits =
      ap (λ (n : ℕ). n + x * M) (sym (div-add-mod' W M)) ∙ swap (W / M * M) (W % M) (x * M) ∙ ap (λ (n : ℕ). n + W % M) (sym (add-mul x (W / M) M))
      ∙ ap (λ (n : ℕ). n * M + W % M) (sym (div-add-mod' (x + W / M) (2 ^ 32)))
      ∙ ap (λ (n : ℕ). n + W % M) (add-mul ((x + W / M) / 2 ^ 32 * 2 ^ 32) ((x + W / M) % 2 ^ 32) M ∙ ap (λ (n : ℕ). n + (x + W / M) % 2 ^ 32 * M)
      (mul_assoc ((x + W / M) / 2 ^ 32) (2 ^ 32) M))
      ∙ add_assoc ((x + W / M) / 2 ^ 32 * (2 ^ 32 * M)) ((x + W / M) % 2 ^ 32 * M) (W % M)
    where
      swap : (a b c : ℕ) → a + b + c ≡ c + a + b
      swap a b c = omega arith

  rest_lt : (x + W / M) % 2 ^ 32 * M + W % M < 2 ^ 32 * M
  rest_lt = digits_lt (omega arith) (mod-lt W h)

  pub above : (W + x * M) / (2 ^ 32 * M) ≡ (x + W / M) / 2 ^ 32
  above = ap (λ (n : ℕ). n / (2 ^ 32 * M)) digits ∙ digits_div ((x + W / M) / 2 ^ 32) rest_lt

  pub below : (W + x * M) % (2 ^ 32 * M) ≡ (x + W / M) % 2 ^ 32 * M + W % M
  below = ap (λ (n : ℕ). n % (2 ^ 32 * M)) digits ∙ digits_mod ((x + W / M) / 2 ^ 32) rest_lt

-- what is below the carry
rest_under : (xs : List ℕ) (i : ℕ) → value (take i xs) % 2 ^ (32 * i) < 2 ^ (32 * i)
rest_under xs i = mod-lt (value (take i xs)) (pow_pos (32 * i))

-- 136 cells, none of which is too great to take a carry
pub record Row (xs : List ℕ) : Type 0 where
  pub long : length xs ≡ 136
  pub low : greatest xs ≤ 64 * 2 ^ 34

module _ (r : Rows) (room : fullest r ≤ 64 * 2 ^ 34) where
  pub row_more : Row r.more
  row_more = record { long = r.more_long; low = omega arith }

  pub row_less : Row r.less
  row_less = record { long = r.less_long; low = omega arith }

-- ---- after i cells: the carries, and how what is below them compares

pub record State (p n : List ℕ) (order : Ordering) (u v i : ℕ) : Type 0 where
  pub passed : i ≤ 136
  pub carry : u ≡ value (take i p) / 2 ^ (32 * i)
  pub carry' : v ≡ value (take i n) / 2 ^ (32 * i)
  pub seen : order ≡ ordered (value (take i p) % 2 ^ (32 * i)) (value (take i n) % 2 ^ (32 * i))
  pub small : u ≤ 2 ^ 32
  pub small' : v ≤ 2 ^ 32

pub start : (p n : List ℕ) → State p n Equal 0 0 0
unfolding value
start p n = record { passed = omega arith; carry = refl; carry' = refl; seen = sym (ordered_equal refl); small = omega arith; small' = omega arith }

-- one more cell
module _ {p n : List ℕ} {order : Ordering} {u v i : ℕ} (s : State p n order u v i) (rp : Row p) (rn : Row n) (h : i < 136) where
  -- the carries of the next cell
  next : (xs : List ℕ) (w : ℕ) → Row xs → w ≡ value (take i xs) / 2 ^ (32 * i)
      → (get_or xs i 0 + w) / 2 ^ 32 ≡ value (take (i + 1) xs) / 2 ^ (32 * (i + 1))
  next xs w r e =
      ap (λ (x : ℕ). (get_or xs i 0 + x) / 2 ^ 32) e ∙ sym (above (value (take i xs)) (get_or xs i 0) (2 ^ (32 * i)) (pow_pos (32 * i)))
      ∙ ap₂ (λ (x y : ℕ). x / y) (sym (value_take xs i (omega (arith, r.long)))) (sym (place i)) ∙ ap (λ (j : ℕ). value (take j xs) / 2 ^ (32 * j)) (sym (add-one i))

  low : (xs : List ℕ) (w : ℕ) → Row xs → w ≡ value (take i xs) / 2 ^ (32 * i)
      → (get_or xs i 0 + w) % 2 ^ 32 * 2 ^ (32 * i) + value (take i xs) % 2 ^ (32 * i) ≡ value (take (i + 1) xs) % 2 ^ (32 * (i + 1))
  low xs w r e =
      ap (λ (x : ℕ). (get_or xs i 0 + x) % 2 ^ 32 * 2 ^ (32 * i) + value (take i xs) % 2 ^ (32 * i)) e
      ∙ sym (below (value (take i xs)) (get_or xs i 0) (2 ^ (32 * i)) (pow_pos (32 * i)))
      ∙ ap₂ (λ (x y : ℕ). x % y) (sym (value_take xs i (omega (arith, r.long)))) (sym (place i)) ∙ ap (λ (j : ℕ). value (take j xs) % 2 ^ (32 * j)) (sym (add-one i))

  abbrev pub digit : ℕ
  digit = (get_or p i 0 + u) % 2 ^ 32

  abbrev pub digit' : ℕ
  digit' = (get_or n i 0 + v) % 2 ^ 32

  pub one_more : State p n (ordering_then (nat_cmp digit digit') order) ((get_or p i 0 + u) / 2 ^ 32) ((get_or n i 0 + v) / 2 ^ 32) (i + 1)
  one_more = record {
    passed = omega arith;
    carry = next p u rp s.carry;
    carry' = next n v rn s.carry';
    seen = ap (ordering_then (nat_cmp digit digit')) s.seen ∙ by_digit digit digit' (rest_under p i) (rest_under n i)
        ∙ ap₂ (λ (x y : ℕ). ordered x y) (low p u rp s.carry) (low n v rn s.carry');
    small = small_of _ _ (omega (arith, get_le p i, rp.low)) s.small;
    small' = small_of _ _ (omega (arith, get_le n i, rn.low)) s.small';
  }
    where
      small_of : (x w : ℕ) → x ≤ 64 * 2 ^ 34 → w ≤ 2 ^ 32 → (x + w) / 2 ^ 32 ≤ 2 ^ 32
      small_of x w a b = omega arith

  -- the same, as a turn of the loop gives it
  pub turn : {a b j : ℕ} {o : Ordering} → a ≡ get_or p i 0 → b ≡ get_or n i 0 → o ≡ ordering_then (nat_cmp ((a + u) % 2 ^ 32) ((b + v) % 2 ^ 32)) order → j ≡ i + 1
      → State p n o ((a + u) / 2 ^ 32) ((b + v) / 2 ^ 32) j
  turn {a} {b} {j} {o} ea eb eo ej =
      subst (λ (k : ℕ). State p n o ((a + u) / 2 ^ 32) ((b + v) / 2 ^ 32) k) (sym ej)
      (subst (λ (q : Ordering). State p n q ((a + u) / 2 ^ 32) ((b + v) / 2 ^ 32) (i + 1)) (sym eo)
      (subst (λ (x : ℕ). State p n (ordering_then (nat_cmp ((x + u) % 2 ^ 32) ((b + v) % 2 ^ 32)) order) ((x + u) / 2 ^ 32) ((b + v) / 2 ^ 32) (i + 1)) (sym ea)
      (subst (λ (y : ℕ). State p n (ordering_then (nat_cmp ((get_or p i 0 + u) % 2 ^ 32) ((y + v) % 2 ^ 32)) order) ((get_or p i 0 + u) / 2 ^ 32) ((y + v) / 2 ^ 32) (i + 1)) (sym eb)
      one_more)))

-- ---- at the end
module _ {p n : List ℕ} {order : Ordering} {u v i : ℕ} (s : State p n order u v i) (rp : Row p) (rn : Row n) (h : 136 ≤ i) where
  whole : (xs : List ℕ) (w : ℕ) → Row xs → w ≡ value (take i xs) / 2 ^ (32 * i) → w * 2 ^ (32 * i) + value (take i xs) % 2 ^ (32 * i) ≡ value xs
  whole xs w r e =
      ap (λ (x : ℕ). x * 2 ^ (32 * i) + value (take i xs) % 2 ^ (32 * i)) e ∙ div-add-mod' (value (take i xs)) (2 ^ (32 * i))
      ∙ ap value (take_all i xs (omega (arith, r.long)))

  pub at_end : ordering_then (nat_cmp u v) order ≡ ordered (value p) (value n)
  at_end =
      ap (ordering_then (nat_cmp u v)) s.seen ∙ by_digit u v (rest_under p i) (rest_under n i)
      ∙ ap₂ (λ (x y : ℕ). ordered x y) (whole p u rp s.carry) (whole n v rn s.carry')
