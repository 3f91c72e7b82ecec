-- To climb by the next height above, n times, is to go through the heights sorted, equal ones dropped. Assumes nothing.
use mathlib.Core.Path.{◌≡◌, refl, sym, ◌∙◌, ap, subst}
use mathlib.Core.Bool.{Bool, true, false, cond, true≢false}
use mathlib.Core.List.{List, [], ◌∷◌}
use Prim.Native.Nat.{ℕ, zero, suc, ◌≤◌}
use native.Mathlib.Omega.{arith}
use lib.Dec.{T}
use lib.ListN.{length}
use lib.Ieee.{Float, lt, eq}
use Rattle.std.specs.Prelude.{Option, None, Some}
use Rattle.lists.specs.Gather.{all, slim_after, slim}
use Rattle.lists.specs.Sort.{insert, sort_onto, sorted}
use Rattle.lists.proofs.Gather.{length_each, length_slim}
use Rattle.lists.proofs.Sort.{length_sorted}
use Rattle.plane.specs.Plane.{is_number}
use Rattle.polygons.specs.Interior.{height_at, heights, widest_in, passed_from, passed, climb, foot, widest}
use Rattle.polygons.specs.Scans.{exceeds, first_above, up_to, climbed, climb_to}
use Rattle.polygons.specs.declared.Climb.{Climb}
use Rattle.plane.proofs.FloatOrder.{lt_asym, not_lt_trans, lt_irrefl, eq_sym, eq_number, eq_not_lt, trichotomy}
use Rattle.polygons.proofs.Scans.{exceeds_trans}

-- ---- sorted: none is below the one before

abbrev dips : Option Float → Float → Bool
dips None y = false
dips (Some b) y = lt y b

abbrev Rising : Option Float → List Float → Type 0
Rising b [] = T true
Rising b (y ∷ ys) = (dips b y ≡ false) × Rising (Some y) ys

insert_rising : (b : Option Float) (x : Float) (ys : List Float) → dips b x ≡ false → Rising b ys → Rising b (insert lt x ys)
unfolding insert
insert_rising b x [] h r = (h, tt)
insert_rising b x (y ∷ ys) h r = go (λ e. insert_rising (Some y) x ys e r.1) (lt x y) refl
  where
    go : (lt x y ≡ false → Rising (Some y) (insert lt x ys)) → (p : Bool) → lt x y ≡ p → Rising b (elim p [ true ↦ x ∷ y ∷ ys | false ↦ y ∷ insert lt x ys ])
    go i true e = (h, (lt_asym x y e, r.1))
    go i false e = (r.0, i e)

onto_rising : (ys xs : List Float) → Rising None ys → Rising None (sort_onto lt ys xs)
unfolding sort_onto
onto_rising ys [] r = r
onto_rising ys (x ∷ xs) r = onto_rising (insert lt x ys) xs (insert_rising None x ys refl r)

-- ---- all numbers

abbrev Numbers : List Float → Type 0
Numbers [] = T true
Numbers (y ∷ ys) = (is_number y ≡ true) × Numbers ys

are_numbers : (ys : List Float) → all is_number ys ≡ true → Numbers ys
unfolding all
are_numbers [] h = tt
are_numbers (y ∷ ys) h = go (λ k. are_numbers ys k) (is_number y) refl h
  where
    go : (all is_number ys ≡ true → Numbers ys) → (b : Bool) → is_number y ≡ b → elim b [ true ↦ all is_number ys | false ↦ false ] ≡ true → Numbers (y ∷ ys)
    go i true e k = (e, i k)
    go i false e k = absurd (true≢false (sym k))

insert_numbers : (x : Float) (ys : List Float) → is_number x ≡ true → Numbers ys → Numbers (insert lt x ys)
unfolding insert
insert_numbers x [] h n = (h, tt)
insert_numbers x (y ∷ ys) h n = go (insert_numbers x ys h n.1) (lt x y)
  where
    go : Numbers (insert lt x ys) → (p : Bool) → Numbers (elim p [ true ↦ x ∷ y ∷ ys | false ↦ y ∷ insert lt x ys ])
    go i true = (h, (n.0, n.1))
    go i false = (n.0, i)

onto_numbers : (ys xs : List Float) → Numbers ys → Numbers xs → Numbers (sort_onto lt ys xs)
unfolding sort_onto
onto_numbers ys [] n m = n
onto_numbers ys (x ∷ xs) n m = onto_numbers (insert lt x ys) xs (insert_numbers x ys m.0 n) m.1

-- ---- equal ones dropped: each is above the one before

abbrev Up : Option Float → List Float → Type 0
Up b [] = T true
Up b (y ∷ ys) = (exceeds b y ≡ true) × Up (Some y) ys

rising_level : (x y : Float) (ys : List Float) → eq x y ≡ true → Rising (Some y) ys → Rising (Some x) ys
rising_level x y [] e r = tt
rising_level x y (z ∷ zs) e r = (not_lt_trans z y x (eq_number y x (eq_sym x y e)) r.0 (eq_not_lt y x (eq_sym x y e)), r.1)

after_up : (x : Float) (ys : List Float) → is_number x ≡ true → Rising (Some x) ys → Numbers ys → Up (Some x) (slim_after eq x ys)
unfolding slim_after
after_up x [] h r n = tt
after_up x (y ∷ ys) h r n = go (λ e. after_up x ys h (rising_level x y ys e r.1) n.1) (after_up y ys n.0 r.1 n.1) (eq x y) refl
  where
    go : (eq x y ≡ true → Up (Some x) (slim_after eq x ys)) → Up (Some y) (slim_after eq y ys) → (p : Bool) → eq x y ≡ p
        → Up (Some x) (elim p [ true ↦ slim_after eq x ys | false ↦ y ∷ slim_after eq y ys ])
    go i j true e = i e
    go i j false e = (trichotomy x y h n.0 r.0 e, j)

slim_up : (ys : List Float) → Rising None ys → Numbers ys → Up None (slim eq ys)
unfolding slim
slim_up [] r n = tt
slim_up (y ∷ ys) r n = (refl, after_up y ys n.0 r.1 n.1)

-- ---- what was dropped is never the first above

level_exceeds : (b : Option Float) (x y : Float) → eq x y ≡ true → exceeds b x ≡ false → exceeds b y ≡ false
level_exceeds None x y e h = absurd (true≢false h)
level_exceeds (Some z) x y e h = not_lt_trans z x y (eq_number x y e) h (eq_not_lt x y e)

above_after : (b : Option Float) (x : Float) (ys : List Float) → exceeds b x ≡ false → first_above b (slim_after eq x ys) ≡ first_above b ys
unfolding slim_after first_above
above_after b x [] h = refl
above_after b x (y ∷ ys) h = go (above_after b x ys h) (λ e. above_after b y ys e) (eq x y) refl
  where
    else_one : (exceeds b y ≡ false → first_above b (slim_after eq y ys) ≡ first_above b ys) → (p : Bool) → exceeds b y ≡ p
        → cond p (Some y) (first_above b (slim_after eq y ys)) ≡ cond p (Some y) (first_above b ys)
    else_one j true e = refl
    else_one j false e = j e

    go : first_above b (slim_after eq x ys) ≡ first_above b ys → (exceeds b y ≡ false → first_above b (slim_after eq y ys) ≡ first_above b ys) → (p : Bool) → eq x y ≡ p
        → first_above b (elim p [ true ↦ slim_after eq x ys | false ↦ y ∷ slim_after eq y ys ]) ≡ cond (exceeds b y) (Some y) (first_above b ys)
    go i j true e = rw (level_exceeds b x y e h) i
    go i j false e = else_one j (exceeds b y) refl

above_slim : (b : Option Float) (ys : List Float) → first_above b (slim eq ys) ≡ first_above b ys
unfolding slim first_above
above_slim b [] = refl
above_slim b (y ∷ ys) = go (exceeds b y) refl
  where
    go : (p : Bool) → exceeds b y ≡ p → cond p (Some y) (first_above b (slim_after eq y ys)) ≡ cond p (Some y) (first_above b ys)
    go true e = refl
    go false e = above_after b y ys e

-- ---- the way up

-- from b on, the first above leads through ys and no further
abbrev Way : List Float → Option Float → List Float → Type 0
Way d b [] = first_above b d ≡ None
Way d b (y ∷ ys) = (first_above b d ≡ Some y) × Way d (Some y) ys

pub not_back : (b : Option Float) (y z : Float) → exceeds b y ≡ false → exceeds b z ≡ true → lt z y ≡ false
not_back b y z h k = go (lt z y) refl
  where
    go : (p : Bool) → lt z y ≡ p → lt z y ≡ false
    go false e = e
    go true e = absurd (true≢false (sym (exceeds_trans b z y k e) ∙ h))

way_cons : (y : Float) (d : List Float) (b : Option Float) (ys : List Float) → exceeds b y ≡ false → Up b ys → Way d b ys → Way (y ∷ d) b ys
unfolding first_above
way_cons y d b [] h u w = rw h w
way_cons y d b (z ∷ zs) h u w = (rw h w.0, way_cons y d (Some z) zs (not_back b y z h u.0) u.1 w.1)

way_self : (b : Option Float) (ys : List Float) → Up b ys → Way ys b ys
unfolding first_above
way_self b [] u = refl
way_self b (y ∷ ys) u = (rw u.0 refl, way_cons y ys (Some y) ys (lt_irrefl y) u.1 (way_self (Some y) ys u.1))

way_over : (d e : List Float) → ((b : Option Float) → first_above b d ≡ first_above b e) → (b : Option Float) (ys : List Float) → Way d b ys → Way e b ys
way_over d e h b [] w = sym (h b) ∙ w
way_over d e h b (y ∷ ys) w = (sym (h b) ∙ w.0, way_over d e h (Some y) ys w.1)

-- ---- the climb

stepped : List Float → ℕ → Climb → Climb
stepped d zero c = c
stepped d (suc n) c = stepped d n (climbed d c)

stepped_last : (d : List Float) (n : ℕ) (c : Climb) → stepped d n (climbed d c) ≡ climbed d (stepped d n c)
unfolding stepped
stepped_last d zero c = refl
stepped_last d (suc n) c = stepped_last d n (climbed d c)

climb_stepped : (d : List Float) (n : ℕ) → climb_to n d ≡ stepped d n foot
unfolding climb_to stepped
climb_stepped d zero = refl
climb_stepped d (suc n) = ap (λ (c : Climb). climbed d c) (climb_stepped d n) ∙ sym (stepped_last d n foot)

pub passed_at : (c : Climb) (y : Float) → (passed c y).at ≡ Some y
unfolding passed
passed_at c y = go c.at
  where
    go : (h : Option Float) → (passed_from h c y).at ≡ Some y
    go None = refl
    go (Some l) = refl

reach : (d : List Float) (n : ℕ) (ys : List Float) (c : Climb) → Way d c.at ys → length ys ≤ n → stepped d n c ≡ climb c ys
unfolding stepped climb climbed
reach d zero [] c w h = refl
reach d zero (y ∷ ys) c w h = absurd (omega arith)
reach d (suc n) [] c w h = ap (λ (b : Option Float). stepped d n (up_to b c)) w ∙ reach d n [] c w (omega arith)
reach d (suc n) (y ∷ ys) c w h =
    ap (λ (b : Option Float). stepped d n (up_to b c)) w.0
    ∙ reach d n ys (passed c y) (subst (λ (b : Option Float). Way d b ys) (sym (passed_at c y)) w.1) (omega arith)

-- ---- all of it

climbs_through : (ys : List Float) (n : ℕ) → length ys ≡ n → all is_number ys ≡ true → (climb_to n (sorted lt ys)).middle ≡ widest ys
unfolding widest
climbs_through ys n l h =
    let s = sorted lt ys in
    let up = slim_up s (onto_rising [] ys tt) (onto_numbers [] ys tt (are_numbers ys h)) in
    let way : Way s None (slim eq s) = way_over (slim eq s) s (λ b. above_slim b s) None (slim eq s) (way_self None (slim eq s) up) in
    let a : length (slim eq s) ≤ length s = length_slim eq s in
    let b : length s ≡ length ys = length_sorted lt ys in
    ap (λ (c : Climb). c.middle) (climb_stepped s n ∙ reach s n (slim eq s) foot way (omega (arith, a, b, l)))

pub climbs_in : (cs : List Float) (ps : List ℕ) (c : Climb) (ok : Bool)
    → ok ≡ all is_number (heights cs ps) → ok ≡ true → c ≡ climb_to (length ps) (sorted lt (heights cs ps)) → c.middle ≡ widest_in cs ps
unfolding widest_in heights
climbs_in cs ps c ok h t e =
    let n : all is_number (heights cs ps) ≡ true = sym h ∙ t in
    let m = climbs_through (heights cs ps) (length ps) (length_each (length ps) (height_at cs ps)) n in
    rw n (ap (λ (z : Climb). z.middle) e ∙ m)
