-- Signs of signed numbers and of a difference of two of them, by their sizes. Assumes nothing.
use mathlib.Core.Path.{◌≡◌, refl, sym, ap, ap₂, ◌∙◌}
use mathlib.Core.Bool.{Bool, true, false, ◌&&◌, cond, beq, true≢false, false≢true}
use Prim.Native.Nat.{ℕ, zero, suc, ◌+◌, ◌*◌, ◌^◌, ◌<◌}
use native.Mathlib.Nat.{zero-mul, mul-zero, mul-pos}
use native.Mathlib.Omega.{arith}
use lib.Dec.{ltb, eqb}
use lib.IntN.{ℤ, pos, negsuc, ◌-ℤ◌, ◌*ℤ◌}
use lib.Pow.{pow_pos}
use lib.Ieee.{Float, unlike}
use borrow.Author.Tests.{eq-eqb, ne_eqb, eqb-true}
use Rattle.exact.specs.Exact.{coord, ordered, sign, signed, sign_number, signum}
use Rattle.exact.specs.Inner.{size, signed_size}
use Rattle.exact.specs.Angle.{part_at, within, cross_product, turn, turn_number, angles, angles_number}
use Rattle.exact.specs.declared.parts.Parts.{Parts}
use Rattle.std.specs.declared.cmp.Ordering.{Ordering}
use Rattle.std.specs.declared.cmp.Ordering.TheVariants.{Less, Equal, Greater}
use Rattle.std.specs.Ordering.{is_eq}
use Rattle.exact.proofs.Orders.{ordered_less, ordered_greater, ordered_equal}
use Rattle.exact.proofs.Integers.{minus_signed, sign_diff, signed_mul}

-- ---- one number

pub sign_none : (s : Bool) (n : ℕ) → n ≡ 0 → sign (signed s n) ≡ Equal
unfolding sign
sign_none false zero e = refl
sign_none true zero e = refl
sign_none s (suc n) e = absurd (omega arith)

pub sign_neg : (s : Bool) (n : ℕ) → s ≡ true → 0 < n → sign (signed s n) ≡ Less
unfolding sign
sign_neg true (suc n) e h = refl
sign_neg true zero e h = absurd (omega arith)
sign_neg false n e h = absurd (false≢true e)

pub sign_pos : (s : Bool) (n : ℕ) → s ≡ false → 0 < n → sign (signed s n) ≡ Greater
unfolding sign
sign_pos false (suc n) e h = refl
sign_pos false zero e h = absurd (omega arith)
sign_pos true n e h = absurd (true≢false e)

-- a size is zero where the significand is
pub size_none : (m e : ℕ) → m ≡ 0 → m * 2 ^ e ≡ 0
size_none m e h = ap (λ (n : ℕ). n * 2 ^ e) h ∙ zero-mul (2 ^ e)

pub size_some : (m e : ℕ) → (m ≡ 0 → ⊥) → 0 < m * 2 ^ e
size_some zero e h = absurd (h refl)
size_some (suc m) e h = mul-pos (omega arith) (pow_pos e)

-- ---- a difference

minus_sign : (s t : Bool) (p q : ℕ) → sign (signed s p -ℤ signed t q) ≡ ordered (cond s 0 p + cond t q 0) (cond s p 0 + cond t 0 q)
minus_sign s t p q = ap sign (minus_signed s t p q) ∙ sign_diff (cond s 0 p + cond t q 0) (cond s p 0 + cond t 0 q)

pub both_neg : (s t : Bool) (p q : ℕ) → beq s t ≡ true → s ≡ true → ordered q p ≡ sign (signed s p -ℤ signed t q)
both_neg true true p q e f = sym (minus_sign true true p q ∙ ap₂ (λ (x y : ℕ). ordered x y) (omega arith) (omega arith))
both_neg true false p q e f = absurd (false≢true e)
both_neg false t p q e f = absurd (false≢true f)

pub both_pos : (s t : Bool) (p q : ℕ) → beq s t ≡ true → s ≡ false → ordered p q ≡ sign (signed s p -ℤ signed t q)
both_pos false false p q e f = sym (minus_sign false false p q ∙ ap₂ (λ (x y : ℕ). ordered x y) (omega arith) (omega arith))
both_pos false true p q e f = absurd (false≢true e)
both_pos true t p q e f = absurd (true≢false f)

pub apart_none : (s t : Bool) (p q : ℕ) → p ≡ 0 → q ≡ 0 → Equal ≡ sign (signed s p -ℤ signed t q)
apart_none s t p q e f = sym (minus_sign s t p q ∙ ordered_equal (go s t))
  where
    go : (s t : Bool) → cond s 0 p + cond t q 0 ≡ cond s p 0 + cond t 0 q
    go false false = omega arith
    go false true = omega arith
    go true false = omega arith
    go true true = omega arith

pub apart_neg : (s t : Bool) (p q : ℕ) → beq s t ≡ false → s ≡ true → 0 < p + q → Less ≡ sign (signed s p -ℤ signed t q)
apart_neg true false p q e f h = sym (minus_sign true false p q ∙ ordered_less (omega arith))
apart_neg true true p q e f h = absurd (true≢false e)
apart_neg false t p q e f h = absurd (false≢true f)

pub apart_pos : (s t : Bool) (p q : ℕ) → beq s t ≡ false → s ≡ false → 0 < p + q → Greater ≡ sign (signed s p -ℤ signed t q)
apart_pos false true p q e f h = sym (minus_sign false true p q ∙ ordered_greater (omega arith))
apart_pos false false p q e f h = absurd (true≢false e)
apart_pos true t p q e f h = absurd (true≢false f)

-- ---- a size that is zero, or is not

pub none : {r : Bool} (p : ℕ) → r ≡ eqb p 0 → r ≡ true → p ≡ 0
none p e t = eqb-true p 0 (sym e ∙ t)

pub some : {r : Bool} (p : ℕ) → r ≡ eqb p 0 → r ≡ false → 0 < p
some zero e t = absurd (true≢false (sym e ∙ t))
some (suc p) e t = omega arith

both : (r t : Bool) → r && t ≡ true → (r ≡ true) × (t ≡ true)
both true t h = (refl, h)
both false t h = absurd (false≢true h)

-- the same of two products
module _ (a b c d : Parts) where
  abbrev pub neg : Bool
  neg = unlike a.neg b.neg

  abbrev pub neg' : Bool
  neg' = unlike c.neg d.neg

  crossed : sign (signed neg (size a * size b) -ℤ signed neg' (size c * size d)) ≡ sign (signed_size a *ℤ signed_size b -ℤ signed_size c *ℤ signed_size d)
  crossed = ap₂ (λ (x y : ℤ). sign (x -ℤ y)) (sym (signed_mul a.neg b.neg (size a) (size b))) (sym (signed_mul c.neg d.neg (size c) (size d)))

  pub cross_neg : beq neg neg' ≡ true → neg ≡ true → ordered (size c * size d) (size a * size b) ≡ sign (signed_size a *ℤ signed_size b -ℤ signed_size c *ℤ signed_size d)
  cross_neg e f = both_neg neg neg' (size a * size b) (size c * size d) e f ∙ crossed

  pub cross_pos : beq neg neg' ≡ true → neg ≡ false → ordered (size a * size b) (size c * size d) ≡ sign (signed_size a *ℤ signed_size b -ℤ signed_size c *ℤ signed_size d)
  cross_pos e f = both_pos neg neg' (size a * size b) (size c * size d) e f ∙ crossed

  module _ {r t : Bool} (is_r : r ≡ eqb (size a * size b) 0) (is_t : t ≡ eqb (size c * size d) 0) where
    pub cross_none : r && t ≡ true → Equal ≡ sign (signed_size a *ℤ signed_size b -ℤ signed_size c *ℤ signed_size d)
    cross_none h =
        let (p, q) = both r t h in
        apart_none neg neg' (size a * size b) (size c * size d) (none _ is_r p) (none _ is_t q) ∙ crossed

    not_both : r && t ≡ false → 0 < size a * size b + size c * size d
    not_both h = go r t h is_r is_t
      where
        go : (r t : Bool) → r && t ≡ false → r ≡ eqb (size a * size b) 0 → t ≡ eqb (size c * size d) 0 → 0 < size a * size b + size c * size d
        go true true h p q = absurd (true≢false h)
        go true false h p q = omega (arith, some (size c * size d) q refl)
        go false t h p q = omega (arith, some (size a * size b) p refl)

    pub cross_less : beq neg neg' ≡ false → neg ≡ true → r && t ≡ false → Less ≡ sign (signed_size a *ℤ signed_size b -ℤ signed_size c *ℤ signed_size d)
    cross_less e f h = apart_neg neg neg' (size a * size b) (size c * size d) e f (not_both h) ∙ crossed

    pub cross_greater : beq neg neg' ≡ false → neg ≡ false → r && t ≡ false → Greater ≡ sign (signed_size a *ℤ signed_size b -ℤ signed_size c *ℤ signed_size d)
    cross_greater e f h = apart_pos neg neg' (size a * size b) (size c * size d) e f (not_both h) ∙ crossed

pub ruleset cross_steps = (cross_neg, cross_pos, cross_none, cross_less, cross_greater)

-- ---- the part of the plane

module _ (x y : Parts) where
  pub part_below : 0 < size y → y.neg ≡ true → 2 ≡ part_at (sign (signed_size x)) (sign (signed_size y))
  part_below h e = sym (ap (part_at (sign (signed_size x))) (sign_neg y.neg (size y) e h))

  pub part_above : 0 < size y → y.neg ≡ false → 0 ≡ part_at (sign (signed_size x)) (sign (signed_size y))
  part_above h e = sym (ap (part_at (sign (signed_size x))) (sign_pos y.neg (size y) e h))

  pub part_west : 0 < size x → x.neg ≡ true → size y ≡ 0 → 0 ≡ part_at (sign (signed_size x)) (sign (signed_size y))
  part_west h e z = sym (ap₂ part_at (sign_neg x.neg (size x) e h) (sign_none y.neg (size y) z))

  pub part_east : 0 < size x → x.neg ≡ false → size y ≡ 0 → 1 ≡ part_at (sign (signed_size x)) (sign (signed_size y))
  part_east h e z = sym (ap₂ part_at (sign_pos x.neg (size x) e h) (sign_none y.neg (size y) z))

  pub part_none : size x ≡ 0 → size y ≡ 0 → 1 ≡ part_at (sign (signed_size x)) (sign (signed_size y))
  part_none e z = sym (ap₂ part_at (sign_none x.neg (size x) e) (sign_none y.neg (size y) z))

pub ruleset part_steps = (part_below, part_above, part_west, part_east, part_none, none, some)

pub zero_size : (m e : ℕ) → eqb m 0 ≡ eqb (m * 2 ^ e) 0
zero_size zero e = sym (eq-eqb _ 0 (zero-mul (2 ^ e)))
zero_size (suc m) e = ne_eqb (suc m) 0 (λ q. omega arith) ∙ sym (ne_eqb _ 0 (λ q. omega (arith, size_some (suc m) e (λ p. omega arith))))

-- ---- products

-- a product is zero where its first factor is, and else where its second one is
pub vanish_left : {r : Bool} (p q : ℕ) → r ≡ eqb p 0 → r ≡ true → true ≡ eqb (p * q) 0
vanish_left p q e t = sym (eq-eqb _ 0 (ap (λ (x : ℕ). x * q) (none p e t) ∙ zero-mul q))

pub vanish_right : {r s : Bool} (p q : ℕ) → r ≡ eqb p 0 → r ≡ false → s ≡ eqb q 0 → s ≡ eqb (p * q) 0
vanish_right p zero e t f = f ∙ sym (eq-eqb _ 0 (mul-zero p))
vanish_right p (suc q) e t f =
    let h : 0 < p * suc q = mul-pos (some p e t) (omega arith) in
    f ∙ ne_eqb (suc q) 0 (λ z. omega arith) ∙ sym (ne_eqb (p * suc q) 0 (λ z. omega arith))

-- ---- two directions

-- by the parts' order, which is that of their numbers
by_part : {s t : ℕ} (x y x' y' : ℤ) → s ≡ part_at (sign x) (sign y) → t ≡ part_at (sign x') (sign y') → within (ordered s t) (cross_product x y x' y') ≡ turn x y x' y'
by_part x y x' y' p q = ap₂ (λ (m n : ℕ). within (ordered m n) (cross_product x y x' y')) p q

pub same_part : {s t : ℕ} {o : Ordering} {b : Bool} (x y x' y' : ℤ) → s ≡ part_at (sign x) (sign y) → t ≡ part_at (sign x') (sign y') → o ≡ ordered s t
    → b ≡ is_eq o → b ≡ true → sign (cross_product x y x' y') ≡ turn x y x' y'
same_part {s} {t} {o} x y x' y' p q e f g = go o (sym f ∙ g) ∙ ap (λ (o : Ordering). within o (cross_product x y x' y')) e ∙ by_part x y x' y' p q
  where
    go : (o : Ordering) → is_eq o ≡ true → sign (cross_product x y x' y') ≡ within o (cross_product x y x' y')
    go Less h = absurd (false≢true h)
    go Equal h = refl
    go Greater h = absurd (false≢true h)

pub other_part : {s t : ℕ} {o : Ordering} {b : Bool} (x y x' y' : ℤ) → s ≡ part_at (sign x) (sign y) → t ≡ part_at (sign x') (sign y') → o ≡ ordered s t
    → b ≡ is_eq o → b ≡ false → o ≡ turn x y x' y'
other_part {s} {t} {o} x y x' y' p q e f g = go o (sym f ∙ g) ∙ ap (λ (o : Ordering). within o (cross_product x y x' y')) e ∙ by_part x y x' y' p q
  where
    go : (o : Ordering) → is_eq o ≡ false → o ≡ within o (cross_product x y x' y')
    go Less h = refl
    go Equal h = absurd (true≢false h)
    go Greater h = refl

pub to_angles : (x y u v : Float) {a b c d : ℤ} → a ≡ coord x → b ≡ coord y → c ≡ coord u → d ≡ coord v → turn a b c d ≡ angles x y u v
unfolding angles
to_angles x y u v p q r s = λ i. turn (p i) (q i) (r i) (s i)

-- ---- the answer's number

pub sign_number_lem : (z : ℤ) → sign_number (sign z) ≡ signum z
unfolding sign signum
sign_number_lem (pos zero) = refl
sign_number_lem (pos (suc n)) = refl
sign_number_lem (negsuc n) = refl

turn_number_lem : (x y x' y' : ℤ) → sign_number (turn x y x' y') ≡ turn_number x y x' y'
unfolding ordered
turn_number_lem x y x' y' =
    let p = part_at (sign x) (sign y) in
    let q = part_at (sign x') (sign y') in
    go (ltb p q) (ltb q p) (cross_product x y x' y')
  where
    go : (b d : Bool) (z : ℤ) → sign_number (within (cond b Less (cond d Greater Equal)) z) ≡ cond b (negsuc 0) (cond d (pos 1) (signum z))
    go true d z = refl
    go false true z = refl
    go false false z = sign_number_lem z

pub angles_number_lem : {r : Ordering} (x y u v : Float) → r ≡ angles x y u v → sign_number r ≡ angles_number x y u v
unfolding angles
angles_number_lem x y u v e = ap sign_number e ∙ turn_number_lem (coord x) (coord y) (coord u) (coord v)
