-- Only printed text is read: words and numbers. Assumes nothing.
use mathlib.Core.Path.{◌≡◌, refl, sym, ap, ◌∙◌, subst}
use mathlib.Core.Bool.{Bool, true, false, cond}
use mathlib.Core.List.{List, [], ◌∷◌, ◌++◌}
use Prim.Native.Nat.{ℕ, zero, suc, ◌+◌, ◌-◌, ◌*◌, ◌/◌, ◌%◌, ◌≤◌, ◌<◌}
use native.Mathlib.Omega.{arith}
use borrow.Author.Tests.{lt-ltb, le-ltb, ltb-true, ltb-false, leb-true, eqb-true, eqb-false}
use lib.Dec.{ltb, leb, eqb}
use lib.Seq.{append_snoc}
use Rattle.std.specs.Prelude.{None, Some}
use Rattle.std.proofs.lemmas.Option.{some_pair_parts}
use Rattle.text.specs.Text.{decimal_to, decimal, glyph, hex_to, hex}
use Rattle.text.specs.Read.{Rest, if_word, and_then, after_word, word_from, digit_val, hex_val, more_from, decimal_from, hex_from, repeated}
use Rattle.text.specs.Given.{Parsed}
use Rattle.text.proofs.Inverse.{tens, small, sixteens}

-- ---- what was read came from its parts
module _ {A : Type 0} where
  pub none_got : {a : A} {u : List ℕ} → ◌≡◌ {A = Parsed A} None (Some (a, u)) → ⊥
  none_got e = let z : ◌≡◌ {A = ℕ} 0 1 = cc in omega arith

  pub record Then {B : Type 0} (p : Parsed B) (f : B → List ℕ → Parsed A) (a : A) (u : List ℕ) : Type 0 where
    pub value : B
    pub rest : List ℕ
    pub first : p ≡ Some (value, rest)
    pub second : f value rest ≡ Some (a, u)

  pub then_got : {B : Type 0} {a : A} {u : List ℕ} (p : Parsed B) (f : B → List ℕ → Parsed A) → and_then p f ≡ Some (a, u) → Then p f a u
  unfolding and_then
  then_got None f e = absurd (none_got e)
  then_got (Some (b, t)) f e = record { value = b; rest = t; first = refl; second = e }

  pub record After (r : Rest) (f : List ℕ → Parsed A) (a : A) (u : List ℕ) : Type 0 where
    pub rest : List ℕ
    pub word : r ≡ Some rest
    pub second : f rest ≡ Some (a, u)

  pub after_got : {a : A} {u : List ℕ} (r : Rest) (f : List ℕ → Parsed A) → after_word r f ≡ Some (a, u) → After r f a u
  unfolding after_word
  after_got None f e = absurd (none_got e)
  after_got (Some t) f e = record { rest = t; word = refl; second = e }

  pub cond_got : {a : A} {u : List ℕ} (b : Bool) (p : Parsed A) → cond b p None ≡ Some (a, u) → (b ≡ true) × (p ≡ Some (a, u))
  cond_got true p e = (refl, e)
  cond_got false p e = absurd (none_got e)

  pub same_value : {a b : A} {t u : List ℕ} → ◌≡◌ {A = Parsed A} (Some (a, t)) (Some (b, u)) → a ≡ b
  same_value e = (some_pair_parts _ _ _ _ e).0

  pub same_rest : {a b : A} {t u : List ℕ} → ◌≡◌ {A = Parsed A} (Some (a, t)) (Some (b, u)) → t ≡ u
  same_rest e = (some_pair_parts _ _ _ _ e).1

  pub moved : {a b : A} {t u : List ℕ} (P : A → List ℕ → Type 0) → ◌≡◌ {A = Parsed A} (Some (a, t)) (Some (b, u)) → P a t → P b u
  moved {a} {b} {t} P e p = subst (λ (l : List ℕ). P b l) (same_rest e) (subst (λ (x : A). P x t) (same_value e) p)

-- ---- words
pub word_only : {u : List ℕ} (w t : List ℕ) → word_from w t ≡ Some u → t ≡ w ++ u
unfolding word_from
word_only [] t e = cc
word_only (c ∷ w) [] e = absurd (let z : ◌≡◌ {A = ℕ} 0 1 = cc in omega arith)
word_only {u} (c ∷ w) (b ∷ t) e = go (λ h. word_only w t h) (eqb b c) refl e
  where
    go : (word_from w t ≡ Some u → t ≡ w ++ u) → (x : Bool) → eqb b c ≡ x → cond x (word_from w t) None ≡ Some u → b ∷ t ≡ c ∷ (w ++ u)
    go ih true h g = rw (eqb-true b c h, ih g)
    go ih false h g = absurd (let z : ◌≡◌ {A = ℕ} 0 1 = cc in omega arith)

-- ---- decimals
digit_only : (b : ℕ) → digit_val b < 10 → b ≡ 48 + digit_val b
unfolding digit_val
digit_only b h = go (ltb b 48) refl (ltb b 58) h
  where
    go : (x : Bool) → ltb b 48 ≡ x → (y : Bool) → cond x 255 (cond y (b - 48) 255) < 10 → b ≡ 48 + cond x 255 (cond y (b - 48) 255)
    go true e y g = absurd (omega arith)
    go false e true g = let l : 48 ≤ b = ltb-false b 48 e in omega arith
    go false e false g = absurd (omega arith)

digit_below : (b : ℕ) → digit_val b < 16 → digit_val b < 10
unfolding digit_val
digit_below b h = go (ltb b 48) (ltb b 58) refl h
  where
    go : (x y : Bool) → ltb b 58 ≡ y → cond x 255 (cond y (b - 48) 255) < 16 → cond x 255 (cond y (b - 48) 255) < 10
    go true y e g = absurd (omega arith)
    go false true e g = let l : b < 58 = ltb-true b 58 e in omega arith
    go false false e g = absurd (omega arith)

-- one digit more than a number has
steady : (k n : ℕ) → n < tens (suc k) → decimal_to (suc k) n ≡ decimal_to (suc (suc k)) n
unfolding decimal_to tens
steady zero n h = rw (lt-ltb n 10 (omega arith))
steady (suc k) n h = ap (λ (l : List ℕ). cond (ltb n 10) ((48 + n) ∷ []) (l ++ ((48 + n % 10) ∷ []))) (steady k (n / 10) (small (suc k) n h))

last_apart : (n : ℕ) → 10 ≤ n → decimal_to 10 n ≡ decimal_to 9 (n / 10) ++ ((48 + n % 10) ∷ [])
unfolding decimal_to
last_apart n k = rw (le-ltb n 10 k)

longer : (v d : ℕ) → 1 ≤ v → d < 10 → v * 10 + d ≤ 4294967295 → decimal (v * 10 + d) ≡ decimal v ++ ((48 + d) ∷ [])
unfolding decimal tens
longer v d h g l =
    let q : (v * 10 + d) / 10 ≡ v = omega arith in
    let r : (v * 10 + d) % 10 ≡ d = omega arith in
    last_apart (v * 10 + d) (omega arith) ∙ rw (q, r, steady 8 v (omega arith))

pub record Printed (n : ℕ) (t u : List ℕ) : Type 0 where
  pub is : t ≡ decimal n ++ u
  pub fits : n ≤ 4294967295

more_only : {n : ℕ} {u : List ℕ} (v : ℕ) (t : List ℕ) → 1 ≤ v → v ≤ 4294967295 → more_from v t ≡ Some (n, u) → Printed n (decimal v ++ t) u
unfolding more_from
more_only v [] h l e = let p : v ≡ _ = same_value e in let q : [] ≡ _ = same_rest e in record { is = rw (p, q); fits = rw (sym p) l }
more_only {n} {u} v (b ∷ t) h l e = go (λ i j f. more_only (v * 10 + digit_val b) t i j f) (ltb (digit_val b) 10) refl (leb (v * 10 + digit_val b) 4294967295) refl e
  where
    go : (1 ≤ v * 10 + digit_val b → v * 10 + digit_val b ≤ 4294967295 → more_from (v * 10 + digit_val b) t ≡ Some (n, u) → Printed n (decimal (v * 10 + digit_val b) ++ t) u)
        → (x : Bool) → ltb (digit_val b) 10 ≡ x → (y : Bool) → leb (v * 10 + digit_val b) 4294967295 ≡ y
        → cond x (cond y (more_from (v * 10 + digit_val b) t) None) (Some (v, b ∷ t)) ≡ Some (n, u) → Printed n (decimal v ++ (b ∷ t)) u
    go ih true f true g k =
        let d : digit_val b < 10 = ltb-true (digit_val b) 10 f in
        let m : v * 10 + digit_val b ≤ 4294967295 = leb-true (v * 10 + digit_val b) 4294967295 g in
        let r = ih (omega arith) m k in
        record {
          is =
              ap (λ (c : ℕ). decimal v ++ (c ∷ t)) (digit_only b d)
              ∙ sym (append_snoc (decimal v) (48 + digit_val b) t)
              ∙ ap (λ (l : List ℕ). l ++ t) (sym (longer v (digit_val b) h d m))
              ∙ r.is;
          fits = r.fits;
        }
    go ih true f false g k = absurd (none_got k)
    go ih false f y g k = let p : v ≡ n = same_value k in let q : b ∷ t ≡ u = same_rest k in record { is = rw (p, q); fits = rw (sym p) l }

one_digit : (d : ℕ) → d < 10 → decimal d ≡ (48 + d) ∷ []
unfolding decimal decimal_to
one_digit d h = rw (lt-ltb d 10 h)

positive : (m : ℕ) → (m ≡ 0 → ⊥) → 1 ≤ m
positive zero h = absurd (h refl)
positive (suc m) h = omega arith

pub decimal_only : {n : ℕ} {u : List ℕ} (t : List ℕ) → decimal_from t ≡ Some (n, u) → Printed n t u
unfolding decimal_from
decimal_only [] e = absurd (none_got e)
decimal_only {n} {u} (b ∷ t) e = go (ltb (digit_val b) 10) refl (eqb (digit_val b) 0) refl e
  where
    go : (x : Bool) → ltb (digit_val b) 10 ≡ x → (y : Bool) → eqb (digit_val b) 0 ≡ y → cond x (cond y (Some (0, t)) (more_from (digit_val b) t)) None ≡ Some (n, u) → Printed n (b ∷ t) u
    go true f true g k =
        let d : digit_val b < 10 = ltb-true (digit_val b) 10 f in
        let z : digit_val b ≡ 0 = eqb-true (digit_val b) 0 g in
        let p : 0 ≡ n = same_value k in
        let q : t ≡ u = same_rest k in
        record {
          is = rw (sym p, sym q, one_digit 0 (omega arith)) (ap (λ (c : ℕ). c ∷ t) (digit_only b d ∙ ap (λ (m : ℕ). 48 + m) z));
          fits = omega arith;
        }
    go true f false g k =
        let d : digit_val b < 10 = ltb-true (digit_val b) 10 f in
        let z : digit_val b ≡ 0 → ⊥ = eqb-false (digit_val b) 0 g in
        let r = more_only (digit_val b) t (positive (digit_val b) z) (omega arith) k in
        record { is = ap (λ (c : ℕ). c ∷ t) (digit_only b d) ∙ ap (λ (l : List ℕ). l ++ t) (sym (one_digit (digit_val b) d)) ∙ r.is; fits = r.fits }
    go false f y g k = absurd (none_got k)

-- ---- hexadecimal digits
glyph_only : (b : ℕ) → hex_val b < 16 → b ≡ glyph (hex_val b)
unfolding hex_val glyph
glyph_only b h = go (ltb b 97) refl (ltb b 103) refl h
  where
    low : (d : ℕ) → d < 10 → 48 + d ≡ cond (ltb d 10) (48 + d) (87 + d)
    low d l = rw (lt-ltb d 10 l)

    high : (d : ℕ) → 10 ≤ d → 87 + d ≡ cond (ltb d 10) (48 + d) (87 + d)
    high d l = rw (le-ltb d 10 l)

    go : (x : Bool) → ltb b 97 ≡ x → (y : Bool) → ltb b 103 ≡ y → cond x (digit_val b) (cond y (b - 87) 255) < 16
        → b ≡ cond (ltb (cond x (digit_val b) (cond y (b - 87) 255)) 10) (48 + cond x (digit_val b) (cond y (b - 87) 255)) (87 + cond x (digit_val b) (cond y (b - 87) 255))
    go true e y f g = let l : digit_val b < 10 = digit_below b g in digit_only b l ∙ low (digit_val b) l
    go false e true f g =
        let l : 97 ≤ b = ltb-false b 97 e in
        let m : b ≡ 87 + (b - 87) = omega arith in
        m ∙ high (b - 87) (omega arith)
    go false e false f g = absurd (omega arith)

hex_more : (j v d : ℕ) → d < 16 → hex_to (suc j) (v * 16 + d) ≡ hex_to j v ++ (glyph d ∷ [])
unfolding hex_to
hex_more j v d h =
    let q : (v * 16 + d) / 16 ≡ v = omega arith in
    let r : (v * 16 + d) % 16 ≡ d = omega arith in
    rw (q, r)

record Digits (i n : ℕ) (t u : List ℕ) : Type 0 where
  is : t ≡ hex_to i n ++ u
  fits : n < sixteens i

hex_from_lem : {n : ℕ} {u : List ℕ} (k i j v : ℕ) (t : List ℕ) → i ≡ k + j → v < sixteens j → hex_from k v t ≡ Some (n, u) → Digits i n (hex_to j v ++ t) u
unfolding hex_from sixteens
hex_from_lem zero i j v t h l e =
    let p : v ≡ _ = same_value e in
    let q : t ≡ _ = same_rest e in
    let z : i ≡ j = omega arith in
    record { is = rw (z, p, q); fits = rw (z, sym p) l }
hex_from_lem (suc k) i j v [] h l e = absurd (none_got e)
hex_from_lem {n} {u} (suc k) i j v (b ∷ t) h l e =
    go (λ g f. hex_from_lem k i (suc j) (v * 16 + hex_val b) t (omega arith) g f)
  where
    go : (v * 16 + hex_val b < sixteens j * 16 → hex_from k (v * 16 + hex_val b) t ≡ Some (n, u) → Digits i n (hex_to (suc j) (v * 16 + hex_val b) ++ t) u)
        → Digits i n (hex_to j v ++ (b ∷ t)) u
    go ih =
        let c = cond_got (ltb (hex_val b) 16) _ e in
        let d : hex_val b < 16 = ltb-true (hex_val b) 16 c.0 in
        let r = ih (omega arith) (cond_got (ltb v 1152921504606846976) _ c.1).1 in
        record {
          is =
              ap (λ (x : ℕ). hex_to j v ++ (x ∷ t)) (glyph_only b d)
              ∙ sym (append_snoc (hex_to j v) (glyph (hex_val b)) t)
              ∙ ap (λ (l : List ℕ). l ++ t) (sym (hex_more j v (hex_val b) d))
              ∙ r.is;
          fits = r.fits;
        }

pub record Pattern (n : ℕ) (t u : List ℕ) : Type 0 where
  pub is : t ≡ hex n ++ u
  pub fits : n < 18446744073709551616

pub hex_only : {n : ℕ} {u : List ℕ} (t : List ℕ) → hex_from 16 0 t ≡ Some (n, u) → Pattern n t u
unfolding hex hex_to sixteens
hex_only t e = let r = hex_from_lem 16 16 0 0 t refl (omega arith) e in record { is = r.is; fits = r.fits }

-- ---- lines and numbers one after the other
module _ {A : Type 0} (w : List ℕ) (f : A → List ℕ → Parsed A) where
  -- n times the word and what f reads after it
  pub data Turns : ℕ → A → A → List ℕ → List ℕ → Type 0 where
    no_more : {a : A} {t : List ℕ} → Turns zero a a t t
    turn : {n : ℕ} {a a₁ b : A} {t t₁ t₂ u : List ℕ} → t ≡ w ++ t₁ → f a t₁ ≡ Some (a₁, t₂) → Turns n a₁ b t₂ u → Turns (suc n) a b t u

  pub record Turned (k : ℕ) (a b : A) (t u : List ℕ) : Type 0 where
    pub count : ℕ
    pub most : count ≤ k
    pub turns : Turns count a b t u

  stopped : {a b : A} {t u : List ℕ} (k : ℕ) → ◌≡◌ {A = Parsed A} (Some (a, t)) (Some (b, u)) → Turned k a b t u
  stopped {a} {t = t} k e = moved (λ b u. Turned k a b t u) e (record { count = 0; most = omega arith; turns = no_more })

  pub repeated_only : {b : A} {u : List ℕ} (k : ℕ) (a : A) (t : List ℕ) → repeated w f k a t ≡ Some (b, u) → Turned k a b t u
  unfolding repeated if_word
  repeated_only zero a t e = stopped zero e
  repeated_only {b} {u} (suc k) a t e = go (λ a₁ t₂ g. repeated_only k a₁ t₂ g) (word_from w t) refl e
    where
      go : ((a₁ : A) (t₂ : List ℕ) → repeated w f k a₁ t₂ ≡ Some (b, u) → Turned k a₁ b t₂ u) → (r : Rest) → word_from w t ≡ r
          → if_word r (λ t₁. and_then (f a t₁) (λ a₁ t₂. repeated w f k a₁ t₂)) (Some (a, t)) ≡ Some (b, u) → Turned (suc k) a b t u
      go ih None h g = stopped (suc k) g
      go ih (Some t₁) h g =
          let p = then_got (f a t₁) (λ a₁ t₂. repeated w f k a₁ t₂) g in
          let r = ih p.value p.rest p.second in
          record { count = suc r.count; most = omega (arith, r.most); turns = turn (word_only w t h) p.first r.turns }
