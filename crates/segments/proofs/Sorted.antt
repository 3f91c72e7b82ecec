-- The four ends of two segments on one line: `in_order` has them by value, equal ones as P1 to P4, each once; and for numbers the exchanges of
-- neighbours lead there. Assumes nothing.
use mathlib.Core.Path.{◌≡◌, refl, sym, ◌∙◌, ap, subst}
use mathlib.Core.Bool.{Bool, true, false, cond, ◌&&◌, true≢false}
use mathlib.Core.List.{List, [], ◌∷◌}
use Prim.Native.Nat.{ℕ, ◌<◌}
use lib.Dec.{T, eqb, lit<}
use lib.Ieee.{Float, lt}
use lib.ListN.{length}
use native.Mathlib.Omega.{arith}
use Rattle.std.specs.List.{list_all}
use Rattle.lists.specs.Gather.{tally}
use Rattle.lists.specs.Sort.{insert, sort_onto}
use Rattle.lists.proofs.Sort.{sorted_tally}
use Rattle.plane.specs.Plane.{is_number, between, magnitude}
use Rattle.segments.specs.Colinear.{spread, parameters, orderable, parameter_of, in_order, of_order, colinear}
use Rattle.segments.specs.Code.{id_code}
use Rattle.segments.specs.Scans.{exchanged, exchanged_ids, sweep, swept}
use Rattle.segments.specs.declared.Segment.{Segment}
use Rattle.segments.specs.declared.Meeting.{Meeting}
use Rattle.segments.specs.declared.Meeting.TheVariants.{Apart}
use Rattle.segments.specs.declared.PointId.{PointId}
use Rattle.segments.specs.declared.PointId.TheVariants.{P1, P2, P3, P4}
use Rattle.plane.proofs.FloatOrder.{lt_asym, not_lt_trans, and_left, and_right}

-- ---- by value, stable, each once

-- q is not below p; and where p is not below q either, p is the earlier of P1 to P4
abbrev pub Next : List Float → PointId → PointId → Type 0
Next ts p q =
    (lt (parameter_of ts q) (parameter_of ts p) ≡ false)
    × (lt (parameter_of ts p) (parameter_of ts q) ≡ false → id_code p < id_code q)

-- each stands so to the one after it
abbrev pub Chain : List Float → List PointId → Type 0
Chain ts [] = T true
Chain ts (p ∷ []) = T true
Chain ts (p ∷ q ∷ ids) = Next ts p q × Chain ts (q ∷ ids)

-- all are earlier than p
abbrev Earlier : PointId → List PointId → Type 0
Earlier p [] = T true
Earlier p (q ∷ ids) = (id_code q < id_code p) × Earlier p ids

-- whether the two are the same of P1 to P4
abbrev pub same : PointId → PointId → Bool
same p q = eqb (id_code p) (id_code q)

module _ (ts : List Float) where
  abbrev before : PointId → PointId → Bool
  before p q = lt (parameter_of ts p) (parameter_of ts q)

  -- p put in among earlier ones, after r
  chain_insert : (r p : PointId) (ids : List PointId) → Next ts r p → Earlier p ids → Chain ts (r ∷ ids) → Chain ts (r ∷ insert before p ids)
  unfolding insert
  chain_insert r p [] h e c = (h, tt)
  chain_insert r p (q ∷ ids) h e c = go (λ n. chain_insert q p ids n e.1 c.1) (before p q) refl
    where
      go : (Next ts q p → Chain ts (q ∷ insert before p ids)) → (b : Bool) → before p q ≡ b
          → Chain ts (r ∷ elim b [ true ↦ p ∷ q ∷ ids | false ↦ q ∷ insert before p ids ])
      go i true f = (h, ((lt_asym (parameter_of ts p) (parameter_of ts q) f, λ g. absurd (true≢false (sym f ∙ g))), c.1))
      go i false f = (c.0, i (f, λ g. e.0))

  chain_first : (p : PointId) (ids : List PointId) → Earlier p ids → Chain ts ids → Chain ts (insert before p ids)
  unfolding insert
  chain_first p [] e c = tt
  chain_first p (q ∷ ids) e c = go (λ n. chain_insert q p ids n e.1 c) (before p q) refl
    where
      go : (Next ts q p → Chain ts (q ∷ insert before p ids)) → (b : Bool) → before p q ≡ b
          → Chain ts (elim b [ true ↦ p ∷ q ∷ ids | false ↦ q ∷ insert before p ids ])
      go i true f = ((lt_asym (parameter_of ts p) (parameter_of ts q) f, λ g. absurd (true≢false (sym f ∙ g))), c)
      go i false f = i (f, λ g. e.0)

  earlier_insert : (r p : PointId) (ids : List PointId) → id_code p < id_code r → Earlier r ids → Earlier r (insert before p ids)
  unfolding insert
  earlier_insert r p [] h e = (h, tt)
  earlier_insert r p (q ∷ ids) h e = go (earlier_insert r p ids h e.1) (before p q)
    where
      go : Earlier r (insert before p ids) → (b : Bool) → Earlier r (elim b [ true ↦ p ∷ q ∷ ids | false ↦ q ∷ insert before p ids ])
      go i true = (h, e)
      go i false = (e.0, i)

  abbrev two : List PointId
  two = insert before P2 (P1 ∷ [])

  abbrev three : List PointId
  three = insert before P3 two

  pub in_order_chain : Chain ts (in_order ts)
  unfolding in_order sort_onto insert
  in_order_chain =
      let c2 : Chain ts two = chain_first P2 (P1 ∷ []) (lit< tt, tt) tt in
      let c3 : Chain ts three = chain_first P3 two (earlier_insert P3 P2 (P1 ∷ []) (lit< tt) (lit< tt, tt)) c2 in
      chain_first P4 three (earlier_insert P4 P3 two (lit< tt) (earlier_insert P4 P2 (P1 ∷ []) (lit< tt) (lit< tt, tt))) c3

  pub in_order_once : (p : PointId) → tally (same p) (in_order ts) ≡ 1
  unfolding in_order tally
  in_order_once p = sorted_tally before (same p) (P1 ∷ P2 ∷ P3 ∷ P4 ∷ []) ∙ once p
    where
      once : (i : PointId) → tally (same i) (P1 ∷ P2 ∷ P3 ∷ P4 ∷ []) ≡ 1
      once P1 = refl
      once P2 = refl
      once P3 = refl
      once P4 = refl

-- ---- the exchanges lead there

module _ (ts : List Float) where
  abbrev t : PointId → Float
  t p = parameter_of ts p

  abbrev lower : PointId → PointId → Bool
  lower p q = lt (t p) (t q)

  -- the lower of two neighbours, and the other one
  abbrev lo : PointId → PointId → PointId
  lo p q = cond (lower q p) q p

  abbrev hi : PointId → PointId → PointId
  hi p q = cond (lower q p) p q

  abbrev values : PointId → PointId → PointId → PointId → List Float
  values a b c d = t a ∷ t b ∷ t c ∷ t d ∷ []

  abbrev ends : PointId → PointId → PointId → PointId → List PointId
  ends a b c d = a ∷ b ∷ c ∷ d ∷ []

  module _ (is : List ℕ) (a b c d : PointId) where
    at0 : sweep (0 ∷ is) (values a b c d) (ends a b c d) ≡ sweep is (values (lo a b) (hi a b) c d) (ends (lo a b) (hi a b) c d)
    unfolding exchanged exchanged_ids
    at0 = go (lower b a)
      where
        go : (e : Bool) → sweep is (cond e (values b a c d) (values a b c d)) (cond e (ends b a c d) (ends a b c d))
            ≡ sweep is (values (cond e b a) (cond e a b) c d) (ends (cond e b a) (cond e a b) c d)
        go true = refl
        go false = refl

    at1 : sweep (1 ∷ is) (values a b c d) (ends a b c d) ≡ sweep is (values a (lo b c) (hi b c) d) (ends a (lo b c) (hi b c) d)
    unfolding exchanged exchanged_ids
    at1 = go (lower c b)
      where
        go : (e : Bool) → sweep is (cond e (values a c b d) (values a b c d)) (cond e (ends a c b d) (ends a b c d))
            ≡ sweep is (values a (cond e c b) (cond e b c) d) (ends a (cond e c b) (cond e b c) d)
        go true = refl
        go false = refl

    at2 : sweep (2 ∷ is) (values a b c d) (ends a b c d) ≡ sweep is (values a b (lo c d) (hi c d)) (ends a b (lo c d) (hi c d))
    unfolding exchanged exchanged_ids
    at2 = go (lower d c)
      where
        go : (e : Bool) → sweep is (cond e (values a b d c) (values a b c d)) (cond e (ends a b d c) (ends a b c d))
            ≡ sweep is (values a b (cond e d c) (cond e c d)) (ends a b (cond e d c) (cond e c d))
        go true = refl
        go false = refl

  -- p before a list, exchanged with its first where that one is lower
  abbrev slid : PointId → List PointId → List PointId
  slid p [] = p ∷ []
  slid p (m ∷ ms) = lo p m ∷ hi p m ∷ ms

  slid_one : (d p : PointId) → insert lower d (p ∷ []) ≡ slid p (d ∷ [])
  unfolding insert
  slid_one d p = go (lower d p)
    where
      go : (b : Bool) → elim b [ true ↦ d ∷ p ∷ [] | false ↦ p ∷ d ∷ [] ] ≡ cond b d p ∷ cond b p d ∷ []
      go true = refl
      go false = refl

  -- to put d in before or after p, which stands below q, is to put it in from q on and then to exchange
  slid_more : (d p q : PointId) (qs : List PointId) → is_number (t q) ≡ true → lower q p ≡ false
      → insert lower d (p ∷ q ∷ qs) ≡ slid p (insert lower d (q ∷ qs))
  unfolding insert
  slid_more d p q qs n h = go (lower d p) refl (lower d q) refl
    where
      go : (b : Bool) → lower d p ≡ b → (c : Bool) → lower d q ≡ c
          → elim b [ true ↦ d ∷ p ∷ q ∷ qs | false ↦ p ∷ elim c [ true ↦ d ∷ q ∷ qs | false ↦ q ∷ insert lower d qs ] ]
          ≡ slid p (elim c [ true ↦ d ∷ q ∷ qs | false ↦ q ∷ insert lower d qs ])
      go true f true g = rw f refl
      go true f false g = absurd (true≢false (sym f ∙ not_lt_trans (t d) (t q) (t p) n g h))
      go false f true g = rw f refl
      go false f false g = rw h refl

  lo_hi : (p q : PointId) → lower (hi p q) (lo p q) ≡ false
  lo_hi p q = go (lower q p) refl
    where
      go : (b : Bool) → lower q p ≡ b → lower (cond b p q) (cond b q p) ≡ false
      go true e = lt_asym (t q) (t p) e
      go false e = e

  module _ (n : (p : PointId) → is_number (t p) ≡ true) where
    -- with x not above y, none of x, y and z is above the higher one of y and z
    above_both : (x y z : PointId) → lower y x ≡ false → lower (hi y z) (hi x (lo y z)) ≡ false
    above_both x y z h = go (lower (lo y z) x)
      where
        over : (b : Bool) → lower z y ≡ b → lower (cond b y z) x ≡ false
        over true e = h
        over false e = not_lt_trans (t z) (t y) (t x) (n y) e h

        go : (b : Bool) → lower (hi y z) (cond b x (lo y z)) ≡ false
        go true = over (lower z y) refl
        go false = lo_hi y z

    abbrev x0 : PointId
    x0 = lo P1 P2

    abbrev y0 : PointId
    y0 = hi P1 P2

    abbrev x1 : PointId
    x1 = lo x0 (lo y0 P3)

    abbrev y1 : PointId
    y1 = hi x0 (lo y0 P3)

    abbrev z1 : PointId
    z1 = hi y0 P3

    through : sweep (0 ∷ 1 ∷ 0 ∷ 2 ∷ 1 ∷ 0 ∷ []) (values P1 P2 P3 P4) (ends P1 P2 P3 P4) ≡ slid x1 (slid y1 (slid z1 (P4 ∷ [])))
    through =
        at0 (1 ∷ 0 ∷ 2 ∷ 1 ∷ 0 ∷ []) P1 P2 P3 P4
        ∙ at1 (0 ∷ 2 ∷ 1 ∷ 0 ∷ []) x0 y0 P3 P4
        ∙ at0 (2 ∷ 1 ∷ 0 ∷ []) x0 (lo y0 P3) z1 P4
        ∙ at2 (1 ∷ 0 ∷ []) x1 y1 z1 P4
        ∙ at1 (0 ∷ []) x1 y1 (lo z1 P4) (hi z1 P4)
        ∙ at0 [] x1 (lo y1 (lo z1 P4)) (hi y1 (lo z1 P4)) (hi z1 P4)

    first_three : insert lower P3 (insert lower P2 (P1 ∷ [])) ≡ x1 ∷ y1 ∷ z1 ∷ []
    first_three =
        ap (insert lower P3) (slid_one P2 P1)
        ∙ slid_more P3 x0 y0 [] (n y0) (lo_hi P1 P2)
        ∙ ap (slid x0) (slid_one P3 y0)

    all_four : insert lower P4 (x1 ∷ y1 ∷ z1 ∷ []) ≡ slid x1 (slid y1 (slid z1 (P4 ∷ [])))
    all_four =
        slid_more P4 x1 y1 (z1 ∷ []) (n y1) (lo_hi x0 (lo y0 P3))
        ∙ ap (slid x1) (slid_more P4 y1 z1 [] (n z1) (above_both x0 y0 P3 (lo_hi P1 P2)) ∙ ap (slid y1) (slid_one P4 z1))

    pub exchanges : sweep (0 ∷ 1 ∷ 0 ∷ 2 ∷ 1 ∷ 0 ∷ []) (values P1 P2 P3 P4) (ends P1 P2 P3 P4) ≡ in_order ts
    unfolding in_order sort_onto insert
    exchanges = through ∙ sym (ap (insert lower P4) first_three ∙ all_four)

-- of four, each is a number where each is, one after the other
pub orderable_all : (ts : List Float) → length ts ≡ 4 → list_all is_number ts ≡ orderable ts
orderable_all (a ∷ b ∷ c ∷ d ∷ []) h =
    go (is_number a) (is_number b) (is_number c) (is_number d)
  where
    go : (p q r s : Bool) → (p && (q && (r && (s && true)))) ≡ p && q && r && s
    go false q r s = refl
    go true false r s = refl
    go true true false s = refl
    go true true true false = refl
    go true true true true = refl
orderable_all [] h = absurd (omega arith)
orderable_all (a ∷ []) h = absurd (omega arith)
orderable_all (a ∷ b ∷ []) h = absurd (omega arith)
orderable_all (a ∷ b ∷ c ∷ []) h = absurd (omega arith)
orderable_all (a ∷ b ∷ c ∷ d ∷ e ∷ ts) h = absurd (omega arith)

swept_four : (a b c d : Float) → orderable (a ∷ b ∷ c ∷ d ∷ []) ≡ true → swept (a ∷ b ∷ c ∷ d ∷ []) ≡ in_order (a ∷ b ∷ c ∷ d ∷ [])
unfolding swept
swept_four a b c d h = exchanges (a ∷ b ∷ c ∷ d ∷ []) each
  where
    abc : is_number a && is_number b && is_number c ≡ true
    abc = and_left (is_number a && is_number b && is_number c) (is_number d) h

    ab : is_number a && is_number b ≡ true
    ab = and_left (is_number a && is_number b) (is_number c) abc

    each : (p : PointId) → is_number (parameter_of (a ∷ b ∷ c ∷ d ∷ []) p) ≡ true
    each P1 = and_left (is_number a) (is_number b) ab
    each P2 = and_right (is_number a) (is_number b) ab
    each P3 = and_right (is_number a && is_number b) (is_number c) abc
    each P4 = and_right (is_number a && is_number b && is_number c) (is_number d) h

swept_parameters : (s o : Segment) → orderable (parameters s o) ≡ true → swept (parameters s o) ≡ in_order (parameters s o)
unfolding parameters
swept_parameters s o h = go (lt (magnitude (between s.a s.b).y) (magnitude (between s.a s.b).x)) h
  where
    go : (b : Bool) → orderable (cond b (spread s.a.x s.b.x o.a.x o.b.x) (spread s.a.y s.b.y o.a.y o.b.y)) ≡ true
        → swept (cond b (spread s.a.x s.b.x o.a.x o.b.x) (spread s.a.y s.b.y o.a.y o.b.y))
        ≡ in_order (cond b (spread s.a.x s.b.x o.a.x o.b.x) (spread s.a.y s.b.y o.a.y o.b.y))
    go true k = swept_four _ _ _ _ k
    go false k = swept_four _ _ _ _ k

pub colinear_is : (s o : Segment) (ts : List Float) (ids : List PointId) (m : Meeting)
    → ts ≡ parameters s o → orderable ts ≡ true → ids ≡ swept ts → m ≡ of_order Apart ids → m ≡ colinear Apart s o
unfolding colinear
colinear_is s o ts ids m e h f g =
    let k : orderable (parameters s o) ≡ true = subst (λ (l : List Float). orderable l ≡ true) e h in
    let i : ids ≡ in_order (parameters s o) = f ∙ ap swept e ∙ swept_parameters s o k in
    rw k (g ∙ ap (of_order Apart) i)
