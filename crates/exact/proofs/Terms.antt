-- Six signed products added into two rows are the determinant. Assumes nothing.
use mathlib.Core.Path.{◌≡◌, refl, sym, ap, ap₂, ◌∙◌}
use mathlib.Core.Bool.{Bool, true, false, cond}
use mathlib.Core.List.{List}
use Prim.Native.Nat.{ℕ, zero, suc, ◌+◌, ◌*◌, max}
use native.Mathlib.Nat.{add-zero}
use native.Mathlib.Omega.{arith}
use lib.IntN.{ℤ, pos, neg_ℤ, ◌+ℤ◌, ◌-ℤ◌, ◌*ℤ◌}
use lib.ListN.{replicate}
use lib.Ieee.{Float, unlike}
use Rattle.exact.specs.Exact.{coord, signed, ordered, sign, sign_number, signum}
use Rattle.exact.specs.Inner.{size, signed_size}
use Rattle.exact.specs.InnerCells.{value, greatest, RowGrown}
use Rattle.exact.specs.InnerRows.{net}
use Rattle.exact.specs.declared.rows.Rows.{Rows}
use Rattle.exact.specs.Angle.{det, orientation}
use Rattle.exact.specs.declared.parts.Parts.{Parts}
use Rattle.std.specs.declared.cmp.Ordering.{Ordering}
use Rattle.exact.proofs.SignLaws.{sign_number_lem}
use Rattle.exact.proofs.Integers.{diff, diff_add, diff_same, every, six, signed_mul, add_signed, add_negated, minus_signed, sign_diff}

-- ---- an empty row

abbrev pub zeros : ℕ → List ℕ
zeros n = replicate n 0

value_zeros : (n : ℕ) → value (zeros n) ≡ 0
unfolding value
value_zeros zero = refl
value_zeros (suc n) = omega (arith, value_zeros n)

pub greatest_zeros : (n : ℕ) → greatest (zeros n) ≡ 0
unfolding greatest
greatest_zeros zero = refl
greatest_zeros (suc n) = omega (arith, greatest_zeros n)

-- ---- one product more

-- what two rows stand for
abbrev pub net_of : List ℕ → List ℕ → ℤ
net_of more less = pos (value more) -ℤ pos (value less)

net_diff : (more less : List ℕ) → net_of more less ≡ diff (value more) (value less)
net_diff more less = minus_signed false false (value more) (value less) ∙ diff_same _ _ _ _ (omega arith)

net_is : (r : Rows) → net r ≡ diff (value r.more) (value r.less)
net_is r = net_diff r.more r.less

no_difference : diff 0 0 ≡ pos 0
unfolding diff
no_difference = refl

-- empty rows
pub empty_full : max (greatest (zeros 136)) (greatest (zeros 136)) ≡ 0
empty_full = omega (arith, greatest_zeros 136)

pub empty_net : net_of (zeros 136) (zeros 136) ≡ pos 0
empty_net = net_diff (zeros 136) (zeros 136) ∙ ap₂ diff (value_zeros 136) (value_zeros 136) ∙ no_difference

-- the sign of what two rows stand for
pub net_sign : (r : Rows) → ordered (value r.more) (value r.less) ≡ sign (net r)
net_sign r = sym (ap sign (net_is r) ∙ sign_diff (value r.more) (value r.less))

module _ (r : Rows) (a b : Parts) {t : ℕ} (product : t ≡ size a * size b) where
  one_more : (s : Bool) (m l : ℕ) → s ≡ unlike a.neg b.neg → m ≡ value r.more + cond s 0 t → l ≡ value r.less + cond s t 0
      → diff m l ≡ net r +ℤ signed_size a *ℤ signed_size b
  one_more s m l h p q =
      ap₂ diff p q ∙ ap (λ (u : ℕ). diff (value r.more + cond s 0 u) (value r.less + cond s u 0)) product ∙ add_signed (value r.more) (value r.less) s (size a * size b)
      ∙ ap₂ (λ (x y : ℤ). x +ℤ y) (sym (net_is r)) (ap (λ (t : Bool). signed t (size a * size b)) h ∙ sym (signed_mul a.neg b.neg (size a) (size b)))

  pub taken_away : {xs : List ℕ} → unlike a.neg b.neg ≡ true → RowGrown 2 t r.less xs → net_of r.more xs ≡ net r +ℤ signed_size a *ℤ signed_size b
  taken_away {xs} h g = net_diff r.more xs ∙ one_more true _ _ (sym h) (sym (add-zero (value r.more))) g.total

  pub added : {xs : List ℕ} → unlike a.neg b.neg ≡ false → RowGrown 2 t r.more xs → net_of xs r.less ≡ net r +ℤ signed_size a *ℤ signed_size b
  added {xs} h g = net_diff xs r.less ∙ one_more false _ _ (sym h) g.total (sym (add-zero (value r.less)))

-- ---- all six

nothing : (z : ℤ) → diff 0 0 +ℤ z ≡ z
nothing = every (λ (z : ℤ). diff 0 0 +ℤ z ≡ z) (λ a b. diff_add 0 0 a b ∙ ap₂ diff (omega arith) (omega arith))

pub all : (ax ay bx by cx cy : ℤ) {ax' cx' ay' d₀ d₁ d₂ d₃ d₄ d₅ d₆ : ℤ} → ax' ≡ neg_ℤ ax → cx' ≡ neg_ℤ cx → ay' ≡ neg_ℤ ay → d₀ ≡ pos 0
    → d₁ ≡ d₀ +ℤ ax *ℤ by
    → d₂ ≡ d₁ +ℤ ax' *ℤ cy
    → d₃ ≡ d₂ +ℤ cx' *ℤ by
    → d₄ ≡ d₃ +ℤ ay' *ℤ bx
    → d₅ ≡ d₄ +ℤ ay *ℤ cx
    → d₆ ≡ d₅ +ℤ cy *ℤ bx
    → d₆ ≡ det ax ay bx by cx cy
all ax ay bx by cx cy {d₁ = d₁} {d₂ = d₂} {d₃ = d₃} p q r e₀ e₁ e₂ e₃ e₄ e₅ e₆ =
    let f₁ = e₁ ∙ ap (λ (z : ℤ). z +ℤ ax *ℤ by) (e₀ ∙ sym no_difference) ∙ nothing (ax *ℤ by) in
    let f₂ = e₂ ∙ ap (λ (z : ℤ). d₁ +ℤ z *ℤ cy) p ∙ add_negated d₁ ax cy ∙ ap (λ (z : ℤ). z -ℤ ax *ℤ cy) f₁ in
    let f₃ = e₃ ∙ ap (λ (z : ℤ). d₂ +ℤ z *ℤ by) q ∙ add_negated d₂ cx by ∙ ap (λ (z : ℤ). z -ℤ cx *ℤ by) f₂ in
    let f₄ = e₄ ∙ ap (λ (z : ℤ). d₃ +ℤ z *ℤ bx) r ∙ add_negated d₃ ay bx ∙ ap (λ (z : ℤ). z -ℤ ay *ℤ bx) f₃ in
    let f₅ = e₅ ∙ ap (λ (z : ℤ). z +ℤ ay *ℤ cx) f₄ in
    e₆ ∙ ap (λ (z : ℤ). z +ℤ cy *ℤ bx) f₅ ∙ sym (six ax ay bx by cx cy)

-- ---- the floats' determinant is that of their parts

pub to_orientation : (ax ay bx by cx cy : Float) {a b c d e f : ℤ} → a ≡ coord ax → b ≡ coord ay → c ≡ coord bx → d ≡ coord by → e ≡ coord cx → f ≡ coord cy
    → sign (det a b c d e f) ≡ orientation ax ay bx by cx cy
unfolding orientation
to_orientation ax ay bx by cx cy p q r s t u = λ i. sign (det (p i) (q i) (r i) (s i) (t i) (u i))

-- ---- the answer's number

with_number : {r : Ordering} (ax ay bx by cx cy : Float) → r ≡ orientation ax ay bx by cx cy
    → sign_number r ≡ signum (det (coord ax) (coord ay) (coord bx) (coord by) (coord cx) (coord cy))
unfolding orientation
with_number ax ay bx by cx cy e = ap sign_number e ∙ sign_number_lem (det (coord ax) (coord ay) (coord bx) (coord by) (coord cx) (coord cy))

pub to_number : {r : Ordering} (ax ay bx by cx cy : Float) {a b c d e f : ℤ} → r ≡ sign (det a b c d e f)
    → a ≡ coord ax → b ≡ coord ay → c ≡ coord bx → d ≡ coord by → e ≡ coord cx → f ≡ coord cy
    → sign_number r ≡ signum (det (coord ax) (coord ay) (coord bx) (coord by) (coord cx) (coord cy))
to_number ax ay bx by cx cy g p q r s t u = with_number ax ay bx by cx cy (g ∙ to_orientation ax ay bx by cx cy p q r s t u)
