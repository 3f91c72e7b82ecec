-- What the operations on f64 round, in units of 2^-1074, and by how much they err. Assumes nothing.
use mathlib.Core.Path.{◌≡◌, refl, sym, ap, ap₂, ◌∙◌, subst}
use mathlib.Core.Bool.{Bool, true, false}
use Prim.Native.Nat.{ℕ, ◌+◌, ◌-◌, ◌*◌, ◌/◌, ◌^◌, ◌≤◌, ◌<◌}
use native.Mathlib.Nat.{mul-div_cancel, le_trans, le_of_eq, lt_of_le_of_lt, le_of_mul-le-mul_right}
use native.Mathlib.Nat.{add-mul, mul-mul-mul_comm, mul-pos}
use native.Mathlib.Omega.{arith}
use lib.Dec.{T, lit<}
use lib.Pow.{pow_pos}
use lib.IntN.{ℤ, pos, neg_ℤ, nat_abs, ◌+ℤ◌, ◌-ℤ◌, ◌*ℤ◌}
use lib.Ieee.{Float, nan, inf, fin, binary64, unlike, up, down, round, sum, add, sub, neg, mul, fits}
use lib.Ieee.Fits.{round_is, down_pos, neg-fits}
use lib.Ieee.Exact.{units_val}
use lib.Ieee.Order.{drop, kept}
use lib.Ieee.Scale.{round_same, round_under, finite}
use lib.Ieee.Bits.{is_true}
use Rattle.std.proofs.lemmas.Int.{unsigned_abs-mul}
use Rattle.exact.specs.Exact.{mag, minus, signed, coord}
use Rattle.exact.proofs.Integers.{diff, diff_same, diff_add, signed_diff, signed_neg, signed_mul, times_signed, abs_signed}
use Rattle.exact.proofs.Fields.{value_mag}
use Rattle.exact.proofs.ExactUnits.{exact_units}
use Rattle.rounding.proofs.Whole.{gap}
use Rattle.rounding.proofs.Nearest.{Close, last_place, half_ulp, rounded, rounded_near, rounded_whole, unscale}
use Rattle.rounding.proofs.Exact.{HasUnits, Fits, exact_where_it_fits}
use Rattle.rounding.proofs.Signs.{round_neg}
use Rattle.rounding.proofs.Sizes.{apart_signed, one_side, abs_back}
use Rattle.rounding.proofs.Order.{above, under}
use Rattle.rounding.proofs.Sums.{Fraction, sum_fraction}
use Rattle.rounding.proofs.Values.{terms}

-- ---- what an operation rounds

-- x is z, a whole number of 2^-1074, rounded
pub record Rounds (x : Float) (z : ℤ) : Type 0 where
  pub sign : Bool
  pub size : ℕ
  pub same : x ≡ round binary64 sign size (2 ^ 1074)
  pub value : signed sign size ≡ z

-- u - v and U - V, of which l and c times as much are the same
rescaled : (k u v U V c l : ℕ) → 0 < c → k + v ≡ u → u * l ≡ U * c → v * l ≡ V * c → (V ≤ U) × (k * l ≡ (U - V) * c)
rescaled k u v U V c l h e f g =
    let some : k * l + V * c ≡ U * c = omega (arith, ap (λ (n : ℕ). n * l) e) in
    let less : V ≤ U = le_of_mul-le-mul_right {m = V} {n = U} {k = c} (omega arith) h in
    let part : (U - V) * c + V * c ≡ U * c = sym (add-mul (U - V) V c) ∙ ap (λ (n : ℕ). n * c) (let w : U - V + V ≡ U = omega arith in w) in
    (less, omega arith)

in_units : {x : Float} {u v c : ℕ} (U V : ℕ) → 0 < c → u * 2 ^ 1074 ≡ U * c → v * 2 ^ 1074 ≡ V * c → Fraction x u v c → Rounds x (diff U V)
in_units {x} {u} {v} {c} U V h f g r = go r.sign r.size r.same r.value
  where
    go : (s : Bool) (k : ℕ) → x ≡ round binary64 s k c → above s k + v ≡ u + under s k → Rounds x (diff U V)
    go false k e w =
        let q = rescaled k u v U V c (2 ^ 1074) h (omega arith) f g in
        record {
          sign = false;
          size = U - V;
          same = e ∙ round_same binary64 false k c (U - V) (2 ^ 1074) h (pow_pos 1074) q.1;
          value = signed_diff false (U - V) ∙ diff_same (U - V) 0 U V (let l = q.0 in omega arith);
        }
    go true k e w =
        let q = rescaled k v u V U c (2 ^ 1074) h (omega arith) g f in
        record {
          sign = true;
          size = V - U;
          same = e ∙ round_same binary64 true k c (V - U) (2 ^ 1074) h (pow_pos 1074) q.1;
          value = signed_diff true (V - U) ∙ diff_same 0 (V - U) U V (let l = q.0 in omega arith);
        }

-- a finite f64
pub record Number (x : Float) : Type 0 where
  pub fit : fits binary64 x ≡ true
  pub end : T (finite x)

-- ±a + ±b, of which l and c times as much are the same
both_scaled : (s t : Bool) (a b A B c l : ℕ) → a * l ≡ A * c → b * l ≡ B * c
    → ((above s a + above t b) * l ≡ (above s A + above t B) * c) × ((under s a + under t b) * l ≡ (under s A + under t B) * c)
both_scaled false false a b A B c l e f = (omega arith, omega arith)
both_scaled false true a b A B c l e f = (omega arith, omega arith)
both_scaled true false a b A B c l e f = (omega arith, omega arith)
both_scaled true true a b A B c l e f = (omega arith, omega arith)

pub add_rounds : (x y : Float) → Number x → Number y → Rounds (add binary64 x y) (coord x +ℤ coord y)
unfolding coord
add_rounds x y p q =
    let s = minus x in
    let t = minus y in
    let A = mag x in
    let B = mag y in
    let r = terms (2 ^ 1074) (pow_pos 1074) x y s t A B (exact_units x p.fit p.end) (exact_units y q.fit q.end) in
    let w = both_scaled s t r.m r.n A B r.d (2 ^ 1074) r.first r.second in
    let z : diff (above s A + above t B) (under s A + under t B) ≡ signed s A +ℤ signed t B =
    sym (ap₂ ◌+ℤ◌ (signed_diff s A) (signed_diff t B) ∙ diff_add (above s A) (under s A) (above t B) (under t B)) in
    subst (λ (v : Float). Rounds v (signed s A +ℤ signed t B)) (sym r.same)
    (subst (Rounds (sum binary64 s r.m t r.n r.d)) z (in_units (above s A + above t B) (under s A + under t B) r.above w.0 w.1 (sum_fraction s t r.m r.n r.d)))

neg_number : (x : Float) → Number x → Number (neg x)
unfolding neg
neg_number nan p = absurd p.end
neg_number (inf s) p = absurd p.end
neg_number (fin s m e) p = record { fit = is_true _ (neg-fits binary64 (fin s m e) (subst T (sym p.fit) tt)); end = tt }

neg_coord : (x : Float) → coord (neg x) ≡ neg_ℤ (coord x)
unfolding neg coord mag
neg_coord nan = refl
neg_coord (inf s) = refl
neg_coord (fin s m e) = signed_neg s _

pub sub_rounds : (x y : Float) → Number x → Number y → Rounds (sub binary64 x y) (coord x -ℤ coord y)
unfolding sub
sub_rounds x y p q = subst (λ (z : ℤ). Rounds (add binary64 x (neg y)) (coord x +ℤ z)) (neg_coord y) (add_rounds x (neg y) p (neg_number y q))

-- ---- by how much it errs

pub value_coord : (x : Float) (s : Bool) (a : ℕ) → HasUnits x s a → T (finite x) × (coord x ≡ signed s a)
unfolding coord
value_coord x s a h = let r = value_mag x s a h in (r.2, ap₂ signed r.0 r.1)

-- below 2^1024 the rounded value is finite
round_coord : (s : Bool) (a c : ℕ) → rounded (a * 2 ^ 1074) c < 2 ^ 2098
    → T (finite (round binary64 s a c)) × (coord (round binary64 s a c) ≡ signed s (rounded (a * 2 ^ 1074) c))
round_coord s a c h =
    value_coord (round binary64 s a c) s (rounded (a * 2 ^ 1074) c)
    (subst (λ (x : Float). HasUnits x s (rounded (a * 2 ^ 1074) c)) (sym (round_is binary64 s a c))
    (units_val binary64 s (kept 53 (a * 2 ^ 1074) c) (drop 53 (a * 2 ^ 1074) c) h))

neg_finite : (x : Float) → T (finite (neg x)) → T (finite x)
unfolding neg
neg_finite nan t = t
neg_finite (inf s) t = t
neg_finite (fin s m e) t = t

-- and is there where it is finite
below_top : (s : Bool) (q : ℕ) → T (finite (round binary64 s q (2 ^ 1074))) → rounded (q * 2 ^ 1074) (2 ^ 1074) < 2 ^ 2098
below_top false q t = round_under binary64 q (2 ^ 1074) t
below_top true q t = round_under binary64 q (2 ^ 1074) (neg_finite (round binary64 false q (2 ^ 1074)) (subst (λ (y : Float). T (finite y)) (round_neg q (2 ^ 1074)) t))

-- a whole number of units is off by 2^-53 of its size at most
pub record Near (x : Float) (z : ℤ) : Type 0 where
  pub end : T (finite x)
  pub off : 2 ^ 53 * nat_abs (coord x -ℤ z) ≤ nat_abs z

twice : (g q b : ℕ) → 2 ^ 53 * g ≤ 2 ^ 53 * q + q → q ≤ b → g ≤ 2 * b
twice g q b h k = omega arith

pub rounds_near : {x : Float} {z : ℤ} → Rounds x z → nat_abs z ≤ 2 ^ 2000 → Near x z
rounds_near {x} {z} r h =
    let q = r.size in
    let g = rounded (q * 2 ^ 1074) (2 ^ 1074) in
    let k : nat_abs z ≡ q = ap nat_abs (sym r.value) ∙ abs_signed r.sign q in
    let w : Close (2 ^ 53 * g) (2 ^ 53 * q) q = rounded_whole (q * 2 ^ 1074) (2 ^ 1074) q (pow_pos 1074) refl in
    let v = round_coord r.sign q (2 ^ 1074) (lt_of_le_of_lt (twice g q (2 ^ 2000) w.over (le_trans (le_of_eq (sym k)) h)) (lit< tt)) in
    record {
      end = subst (λ (y : Float). T (finite y)) (sym r.same) v.0;
      off = subst (λ (y : ℤ). 2 ^ 53 * nat_abs (y -ℤ z) ≤ nat_abs z) (sym (ap coord r.same ∙ v.1))
          (subst (λ (y : ℤ). 2 ^ 53 * nat_abs (signed r.sign g -ℤ y) ≤ nat_abs y) r.value
          (le_trans (apart_signed r.sign g q q w) (le_of_eq (sym (abs_signed r.sign q)))));
    }

-- so it is at most twice as large
pub near_most : {x : Float} {z : ℤ} → Near x z → (n : ℕ) → nat_abs z ≤ n → nat_abs (coord x) ≤ 2 * n
near_most {x} {z} h n l = go (nat_abs (coord x)) (nat_abs (coord x -ℤ z)) (nat_abs z) (abs_back (coord x) z) h.off l
  where
    go : (v e z : ℕ) → v ≤ e + z → 2 ^ 53 * e ≤ z → z ≤ n → v ≤ 2 * n
    go v e z h i j = omega arith

-- half a unit in the last place, at most
pub rounds_half_ulp : {x : Float} {z : ℤ} → Rounds x z → T (finite x) → 2 * nat_abs (coord x -ℤ z) ≤ last_place (nat_abs z)
rounds_half_ulp {x} {z} r t =
    let q = r.size in
    let g = rounded (q * 2 ^ 1074) (2 ^ 1074) in
    let c : coord x ≡ signed r.sign g = ap coord r.same ∙ (round_coord r.sign q (2 ^ 1074) (below_top r.sign q (subst (λ (y : Float). T (finite y)) r.same t))).1 in
    let k : nat_abs z ≡ q = ap nat_abs (sym r.value) ∙ abs_signed r.sign q in
    let d : nat_abs (coord x -ℤ z) ≡ gap g q = ap₂ (λ (a b : ℤ). nat_abs (a -ℤ b)) c (sym r.value) ∙ one_side r.sign g q in
    let u : q * 2 ^ 1074 / 2 ^ 1074 ≡ nat_abs z = mul-div_cancel q (pow_pos 1074) ∙ sym k in
    subst (λ (n : ℕ). 2 * n ≤ last_place (nat_abs z)) (sym d)
    (subst (λ (n : ℕ). 2 * gap g q ≤ last_place n) u (apart_twice g q (last_place (q * 2 ^ 1074 / 2 ^ 1074)) (2 ^ 1074) (pow_pos 1074) (half_ulp (q * 2 ^ 1074) (2 ^ 1074) (pow_pos 1074))))
  where
    apart_twice : (g q u l : ℕ) → 0 < l → Close (g * l * 2) (q * l * 2) (u * l) → 2 * gap g q ≤ u
    apart_twice g q u l h k =
        let c = unscale (g * 2) (q * 2) u l h (record { over = omega (arith, k.over); under = omega (arith, k.under) }) in
        omega (arith, c.over, c.under)

-- exact where it fits
pub rounds_exact : {x : Float} {z : ℤ} → Rounds x z → Fits (nat_abs z) → T (finite x) × (coord x ≡ z)
rounds_exact {x} {z} r f =
    let k : nat_abs z ≡ r.size = ap nat_abs (sym r.value) ∙ abs_signed r.sign r.size in
    let v = value_coord x r.sign r.size (subst (λ (y : Float). HasUnits y r.sign r.size) (sym r.same) (exact_where_it_fits r.sign r.size (subst Fits k f))) in
    (v.0, v.1 ∙ r.value)

-- ---- the product, a whole number of 2^-2148

-- it is off by 2^-53 of its size and half a unit of 2^-1074 at most
pub record NearProduct (x : Float) (z : ℤ) : Type 0 where
  pub end : T (finite x)
  pub off : 2 ^ 53 * nat_abs (coord x *ℤ pos (2 ^ 1074) -ℤ z) ≤ nat_abs z + 2 ^ 52 * 2 ^ 1074

scaled : (g q l : ℕ) → 0 < l → Close (2 ^ 53 * (g * (l * l))) (2 ^ 53 * (q * l)) (q * l + 2 ^ 52 * (l * l)) → Close (2 ^ 53 * (g * l)) (2 ^ 53 * q) (q + 2 ^ 52 * l)
scaled g q l h k = unscale (2 ^ 53 * (g * l)) (2 ^ 53 * q) (q + 2 ^ 52 * l) l h (record { over = omega (arith, k.over); under = omega (arith, k.under) })

few : (g q b l : ℕ) → 0 < l → 2 ^ 53 * (g * l) ≤ 2 ^ 53 * q + (q + 2 ^ 52 * l) → q ≤ b * l → g ≤ 2 * b + 1
few g q b l h k j = le_of_mul-le-mul_right {m = g} {n = 2 * b + 1} {k = l} (omega arith) h

product_near : (s : Bool) (q : ℕ) → q ≤ 2 ^ 2000 * 2 ^ 1074 → NearProduct (round binary64 s q (2 ^ 1074 * 2 ^ 1074)) (signed s q)
product_near s q h =
    let g = rounded (q * 2 ^ 1074) (2 ^ 1074 * 2 ^ 1074) in
    let w : Close (2 ^ 53 * (g * 2 ^ 1074)) (2 ^ 53 * q) (q + 2 ^ 52 * 2 ^ 1074) =
    scaled g q (2 ^ 1074) (pow_pos 1074) (rounded_near (q * 2 ^ 1074) (2 ^ 1074 * 2 ^ 1074) (mul-pos (pow_pos 1074) (pow_pos 1074))) in
    let v = round_coord s q (2 ^ 1074 * 2 ^ 1074) (lt_of_le_of_lt (few g q (2 ^ 2000) (2 ^ 1074) (pow_pos 1074) w.over h) (lit< tt)) in
    record {
      end = v.0;
      off = subst (λ (y : ℤ). 2 ^ 53 * nat_abs (y -ℤ signed s q) ≤ nat_abs (signed s q) + 2 ^ 52 * 2 ^ 1074) (sym (times_signed s g (2 ^ 1074)) ∙ ap (λ (y : ℤ). y *ℤ pos (2 ^ 1074)) (sym v.1))
          (le_trans (apart_signed s (g * 2 ^ 1074) q (q + 2 ^ 52 * 2 ^ 1074) w) (le_of_eq (ap (λ (n : ℕ). n + 2 ^ 52 * 2 ^ 1074) (sym (abs_signed s q)))));
    }

pub product_most : {x : Float} {z : ℤ} → NearProduct x z → (n : ℕ) → nat_abs z ≤ n * 2 ^ 1074 → nat_abs (coord x) ≤ 2 * n + 1
product_most {x} {z} h n l =
    let u = pos (2 ^ 1074) in
    go (nat_abs (coord x)) (nat_abs (coord x *ℤ u -ℤ z)) (nat_abs z) (2 ^ 1074) (pow_pos 1074)
    (le_trans (le_of_eq (sym (unsigned_abs-mul (coord x) u))) (abs_back (coord x *ℤ u) z)) h.off l
  where
    go : (x e z l : ℕ) → 0 < l → x * l ≤ e + z → 2 ^ 53 * e ≤ z + 2 ^ 52 * l → z ≤ n * l → x ≤ 2 * n + 1
    go x e z l h i j k = le_of_mul-le-mul_right {m = x} {n = 2 * n + 1} {k = l} (omega arith) h

both : (a A de b B dd l : ℕ) → a * l ≡ A * de → b * l ≡ B * dd → a * b * (l * l) ≡ A * B * (de * dd)
both a A de b B dd l e f = mul-mul-mul_comm a b l l ∙ ap₂ ◌*◌ e f ∙ mul-mul-mul_comm A de B dd

pub mul_near : (x y : Float) → Number x → Number y → nat_abs (coord x *ℤ coord y) ≤ 2 ^ 2000 * 2 ^ 1074 → NearProduct (mul binary64 x y) (coord x *ℤ coord y)
unfolding mul coord
mul_near nan y p q h = absurd p.end
mul_near (inf s) y p q h = absurd p.end
mul_near (fin s m e) nan p q h = absurd q.end
mul_near (fin s m e) (inf t) p q h = absurd q.end
mul_near (fin s m e) (fin t n d) p q h =
    let u = exact_units (fin s m e) p.fit p.end in
    let v = exact_units (fin t n d) q.fit q.end in
    let A = mag (fin s m e) in
    let B = mag (fin t n d) in
    let z : signed (unlike s t) (A * B) ≡ signed s A *ℤ signed t B = sym (signed_mul s t A B) in
    let same : round binary64 (unlike s t) (A * B) (2 ^ 1074 * 2 ^ 1074) ≡ round binary64 (unlike s t) (m * up e * (n * up d)) (down e * down d) =
    sym (round_same binary64 (unlike s t) (m * up e * (n * up d)) (down e * down d) (A * B) (2 ^ 1074 * 2 ^ 1074) (mul-pos (down_pos e) (down_pos d)) (mul-pos (pow_pos 1074) (pow_pos 1074))
    (both (m * up e) A (down e) (n * up d) B (down d) (2 ^ 1074) u.1 v.1)) in
    subst (λ (x : Float). NearProduct x (signed s A *ℤ signed t B)) same
    (subst (λ (y : ℤ). NearProduct (round binary64 (unlike s t) (A * B) (2 ^ 1074 * 2 ^ 1074)) y) z
    (product_near (unlike s t) (A * B) (le_trans (le_of_eq (sym (abs_signed (unlike s t) (A * B)) ∙ ap nat_abs z)) h)))
