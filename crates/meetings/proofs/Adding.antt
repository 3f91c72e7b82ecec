-- How meetings are added to those found: none, one, and one part behind the other. Assumes nothing.
use mathlib.Core.Path.{◌≡◌, refl, sym, ap, ap₂, ◌∙◌, subst}
use mathlib.Core.Bool.{true≢false}
use mathlib.Core.List.{List, [], ◌∷◌, ◌++◌, append_assoc}
use Prim.Native.Nat.{ℕ, zero, suc, ◌+◌, ◌*◌, ◌-◌, ◌/◌, ◌≤◌, ◌<◌}
use native.Mathlib.Decide.{dec_le}
use native.Mathlib.Omega.{arith}
use lib.ListN.{length, length-append}
use lib.Ieee.{Float}
use Rattle.std.specs.Prelude.{Result, Ok, Err, IsOk, IsErrAnd}
use Rattle.lists.specs.Gather.{joined}
use Rattle.lists.specs.Regions.{put}
use Rattle.lists.proofs.Gather.{joined_append}
use Rattle.lists.proofs.Regions.{put_none, put_append}
use Rattle.refusals.specs.declared.Refusal.{Refusal}
use Rattle.refusals.specs.declared.Refusal.TheVariants.{TooManyMeetings, NoPlace}
use Rattle.refusals.specs.Numbers.{number}
use Rattle.refusals.proofs.Numbers.{some_not_zero}
use Rattle.segments.specs.declared.PointId.{PointId}
use Rattle.segments.specs.declared.Meeting.{Meeting}
use Rattle.segments.specs.declared.Meeting.TheVariants.{Apart, Existing, New, Overlap}
use Rattle.cutting.specs.Edges.{Edge}
use Rattle.grid.specs.Grid.{Grid}
use Rattle.rules.specs.Meetings.{Met, node_of, segment_of, recorded, added_by, meeting_on}
use Rattle.rules.specs.Refusals.{Event, of_meeting, first_refusal}
use Rattle.rules.proofs.Course.{refused_first}
use Rattle.meetings.specs.declared.Found.{Found}
use Rattle.meetings.specs.InNumbers.{five_numbers, in_numbers}
use Rattle.meetings.specs.declared.MetLists.{MetLists}
use Rattle.meetings.specs.Steps.{met_of, SameLists, refusal_in, Grown, Answered}
use Rattle.meetings.proofs.Reading.{length_in_numbers}

-- ---- lengths

pub length_added : (ms more : List Met) → length (added_by (ms ++ more)) ≡ length (added_by ms) + length (added_by more)
length_added ms more = ap length (joined_append (λ m. m.point) ms more) ∙ length-append (added_by ms) (added_by more)

-- ---- no step, or one

pub same_none : (l : MetLists) → SameLists l l
same_none l = record { grid = refl; points = record { name = refl; long = refl }; met = record { name = refl; long = refl } }

same_both : {l m n : MetLists} → SameLists n m → SameLists m l → SameLists n l
same_both s t =
    record {
      grid = s.grid ∙ t.grid;
      points = record { name = s.points.name ∙ t.points.name; long = s.points.long ∙ t.points.long };
      met = record { name = s.met.name ∙ t.met.name; long = s.met.long ∙ t.met.long };
    }

module _ (l : MetLists) where
  abbrev m : ℕ
  m = length l.met.now / 5

  abbrev met : ℕ
  met = l.found.met

  abbrev next : ℕ
  next = l.found.points

  abbrev places : ℕ
  places = length l.points.now / 2

  pub grown_none : Grown [] l l
  unfolding joined
  grown_none =
      record {
        met = omega arith;
        new = omega arith;
        points = sym (put_none l.points.now (2 * next));
        numbers = sym (put_none l.met.now (5 * met));
        goes = λ q n es. refl;
        same = same_none l;
      }

  -- at nodes that there are already
  module _ (i j : ℕ) (ns : List ℕ) where
    abbrev known : Met
    known = record { subject_edge = i; cutter_edge = j; nodes = ns; point = [] }

    pub answered_known : (l' : MetLists) (r : Result (Unit {0}) Refusal) → SameLists l' l → (m ≤ met → IsErrAnd r (λ e. e ≡ TooManyMeetings))
        → (met < m → IsOk r × (l'.found ≡ record { met = met + 1; points = next }) × (l'.points.now ≡ l.points.now) × (l'.met.now ≡ put l.met.now (5 * met) (five_numbers known)))
        → Answered (known ∷ []) l l' r
    unfolding joined first_refusal
    answered_known l' (Ok u) same over added = go (dec_le m met)
      where
        go : Dec (m ≤ met) → Grown (known ∷ []) l l'
        go (yes h) = absurd (over h)
        go (no h) =
            let a = added (omega (arith, h)) in
            let count : l'.found.met ≡ met + 1 = ap (λ (f : Found). f.met) a.1 in
            let points : l'.found.points ≡ next = ap (λ (f : Found). f.points) a.1 in
            let one : m - met ≡ suc (length l'.met.now / 5 - l'.found.met) = omega (arith, count, h, same.met.long) in
            let all : places - next ≡ length l'.points.now / 2 - l'.found.points = omega (arith, points, same.points.long) in
            record {
              met = count;
              new = omega (arith, points);
              points = a.2 ∙ sym (put_none l.points.now (2 * next));
              numbers = a.3;
              goes = λ q n es. ap₂ (λ (x y : ℕ). first_refusal x y q n (joined of_meeting (known ∷ []) ++ es)) one all;
              same = same;
            }
    answered_known l' (Err e) same over added = go (dec_le m met)
      where
        go : Dec (m ≤ met) → (q n : ℕ) → number e ≡ refusal_in l q n (joined of_meeting (known ∷ []))
        go (yes h) =
            let full : m - met ≡ 0 = omega (arith, h) in
            λ q n. ap number (over h) ∙ ap (λ (x : ℕ). first_refusal x (places - next) q n (joined of_meeting (known ∷ []))) (sym full)
        go (no h) = absurd (true≢false (sym (added (omega (arith, h))).0))

  -- at a new point, which is numbered from `first` on
  module _ (first i j : ℕ) (x y : Float) where
    abbrev new : Met
    new = record { subject_edge = i; cutter_edge = j; nodes = (first + next) ∷ []; point = x ∷ y ∷ [] }

    pub answered_new : (l' : MetLists) (r : Result (Unit {0}) Refusal) → SameLists l' l → (m ≤ met → IsErrAnd r (λ e. e ≡ TooManyMeetings))
        → (met < m → length l.points.now < 2 * next + 2 → IsErrAnd r (λ e. e ≡ NoPlace))
        → (met < m → 2 * next + 2 ≤ length l.points.now → IsOk r × (l'.found ≡ record { met = met + 1; points = next + 1 })
        × (l'.points.now ≡ put l.points.now (2 * next) (x ∷ y ∷ [])) × (l'.met.now ≡ put l.met.now (5 * met) (five_numbers new)))
        → Answered (new ∷ []) l l' r
    unfolding joined first_refusal
    answered_new l' (Ok u) same over none added = go (dec_le m met) (dec_le (2 * next + 2) (length l.points.now))
      where
        go : Dec (m ≤ met) → Dec (2 * next + 2 ≤ length l.points.now) → Grown (new ∷ []) l l'
        go (yes h) t = absurd (over h)
        go (no h) (no t) = absurd (none (omega (arith, h)) (omega (arith, t)))
        go (no h) (yes t) =
            let a = added (omega (arith, h)) t in
            let count : l'.found.met ≡ met + 1 = ap (λ (f : Found). f.met) a.1 in
            let points : l'.found.points ≡ next + 1 = ap (λ (f : Found). f.points) a.1 in
            let one : m - met ≡ suc (length l'.met.now / 5 - l'.found.met) = omega (arith, count, h, same.met.long) in
            let place : places - next ≡ suc (length l'.points.now / 2 - l'.found.points) = omega (arith, points, t, same.points.long) in
            record {
              met = count;
              new = omega (arith, points);
              points = a.2;
              numbers = a.3;
              goes = λ q n es. ap₂ (λ (u v : ℕ). first_refusal u v q n (joined of_meeting (new ∷ []) ++ es)) one place;
              same = same;
            }
    answered_new l' (Err e) same over none added = go (dec_le m met) (dec_le (2 * next + 2) (length l.points.now))
      where
        go : Dec (m ≤ met) → Dec (2 * next + 2 ≤ length l.points.now) → (q n : ℕ) → number e ≡ refusal_in l q n (joined of_meeting (new ∷ []))
        go (yes h) t =
            let full : m - met ≡ 0 = omega (arith, h) in
            λ q n. ap number (over h) ∙ ap (λ (u : ℕ). first_refusal u (places - next) q n (joined of_meeting (new ∷ []))) (sym full)
        go (no h) (no t) =
            let more : m - met ≡ suc (m - met - 1) = omega (arith, h) in
            let last : places - next ≡ 0 = omega (arith, t) in
            λ q n. ap number (none (omega (arith, h)) (omega (arith, t))) ∙ ap₂ (λ (u v : ℕ). first_refusal u v q n (joined of_meeting (new ∷ []))) (sym more) (sym last)
        go (no h) (yes t) = absurd (true≢false (sym (added (omega (arith, h)) t).0))

-- ---- one part behind the other

module _ (ms : List Met) (l l₁ : MetLists) (one : Grown ms l l₁) (more : List Met) where
  pub grown_then : (l₂ : MetLists) → Grown more l₁ l₂ → Grown (ms ++ more) l l₂
  grown_then l₂ then =
      let len = length-append ms more in
      let added = length_added ms more in
      let at : 5 * l₁.found.met ≡ 5 * l.found.met + length (in_numbers ms) = omega (arith, length_in_numbers ms, one.met) in
      let s : SameLists l₁ l = one.same in
      record {
        met = omega (arith, len, one.met, then.met);
        new = omega (arith, added, one.new, then.new);
        points = then.points ∙ ap₂ (λ (xs : List Float) (k : ℕ). put xs k (added_by more)) one.points one.new
            ∙ put_append l.points.now (2 * l.found.points) l.placed (added_by ms) (added_by more) (omega (arith, one.new, l₁.placed, s.points.long))
            ∙ ap (put l.points.now (2 * l.found.points)) (sym (joined_append (λ m. m.point) ms more));
        numbers = then.numbers ∙ ap₂ (λ (xs : List ℕ) (k : ℕ). put xs k (in_numbers more)) one.numbers at
            ∙ put_append l.met.now (5 * l.found.met) (omega (arith, l.within)) (in_numbers ms) (in_numbers more) (omega (arith, at, l₁.within, s.met.long))
            ∙ ap (put l.met.now (5 * l.found.met)) (sym (joined_append five_numbers ms more));
        goes = λ q n es. ap (λ (xs : List Event). refusal_in l q n (xs ++ es)) (joined_append of_meeting ms more)
            ∙ ap (refusal_in l q n) (append_assoc (joined of_meeting ms) (joined of_meeting more) es) ∙ one.goes q n (joined of_meeting more ++ es) ∙ then.goes q n es;
        same = same_both then.same s;
      }

  pub answered_then : (l₂ : MetLists) (r : Result (Unit {0}) Refusal) → Answered more l₁ l₂ r → Answered (ms ++ more) l l₂ r
  answered_then l₂ (Ok u) then = grown_then l₂ then
  answered_then l₂ (Err e) then =
      λ q n. then q n ∙ sym (one.goes q n (joined of_meeting more)) ∙ ap (refusal_in l q n) (sym (joined_append of_meeting ms more))

-- a refusal ends it, whatever comes behind
pub answered_stop : (ms more : List Met) (l l₁ l₂ : MetLists) (e : Refusal) → Answered ms l l₁ (Err e) → Answered (ms ++ more) l l₂ (Err e)
answered_stop ms more l l₁ l₂ e a =
    λ q n. stops (number e) (some_not_zero e) q n (a q n) ∙ ap (refusal_in l q n) (sym (joined_append of_meeting ms more))
  where
    stops : (c : ℕ) → (c ≡ 0 → ⊥) → (q n : ℕ) → c ≡ refusal_in l q n (joined of_meeting ms) → c ≡ refusal_in l q n (joined of_meeting ms ++ joined of_meeting more)
    stops zero k q n h = absurd (k refl)
    stops (suc c) k q n h =
        sym (refused_first (joined of_meeting ms) (joined of_meeting more) (length l.met.now / 5 - l.found.met) (length l.points.now / 2 - l.found.points) q n c (sym h))

pub onto : (ms ns : List Met) (l l' : MetLists) (r : Result (Unit {0}) Refusal) → ms ≡ ns → Answered ns l l' r → Answered ms l l' r
onto ms ns l l' r e a = subst (λ (xs : List Met). Answered xs l l' r) (sym e) a

-- ---- the four answers of two edges

module _ (g : Grid) (coords : List Float) (i j first : ℕ) (e f : Edge) (x : Meeting) (is : x ≡ meeting_on g (segment_of coords e) (segment_of coords f)) (l : MetLists) where
  abbrev those : List Met
  those = met_of g coords i j (first + l.found.points) e f

  told : (y : Meeting) → x ≡ y → those ≡ recorded i j (first + l.found.points) e f y
  told y t = ap (recorded i j (first + l.found.points) e f) (sym is ∙ t)

  pub apart : x ≡ Apart → Answered those l l (Ok tt)
  apart t = onto those [] l l (Ok tt) (told Apart t) (grown_none l)

  module _ (l' : MetLists) (r : Result (Unit {0}) Refusal) (same : SameLists l' l) (over : length l.met.now / 5 ≤ l.found.met → IsErrAnd r (λ z. z ≡ TooManyMeetings)) where
    pub at_one : (p : PointId) (u : ℕ) → x ≡ Existing p → u ≡ node_of e f p
        → (l.found.met < length l.met.now / 5 → IsOk r × (l'.found ≡ record { met = l.found.met + 1; points = l.found.points }) × (l'.points.now ≡ l.points.now)
        × (l'.met.now ≡ put l.met.now (5 * l.found.met) (i ∷ j ∷ 1 ∷ u ∷ 0 ∷ []))) → Answered those l l' r
    at_one p u t v added =
        onto those (known l i j (u ∷ []) ∷ []) l l' r (told (Existing p) t ∙ ap (λ (n : ℕ). known l i j (n ∷ []) ∷ []) (sym v)) (answered_known l i j (u ∷ []) l' r same over added)

    pub at_two : (p q : PointId) (u v : ℕ) → x ≡ Overlap p q → u ≡ node_of e f p → v ≡ node_of e f q
        → (l.found.met < length l.met.now / 5 → IsOk r × (l'.found ≡ record { met = l.found.met + 1; points = l.found.points }) × (l'.points.now ≡ l.points.now)
        × (l'.met.now ≡ put l.met.now (5 * l.found.met) (i ∷ j ∷ 2 ∷ u ∷ v ∷ []))) → Answered those l l' r
    at_two p q u v t a b added =
        onto those (known l i j (u ∷ v ∷ []) ∷ []) l l' r (told (Overlap p q) t ∙ ap₂ (λ (n o : ℕ). known l i j (n ∷ o ∷ []) ∷ []) (sym a) (sym b))
        (answered_known l i j (u ∷ v ∷ []) l' r same over added)

    pub at_new : (a b : Float) → x ≡ New a b → (l.found.met < length l.met.now / 5 → length l.points.now < 2 * l.found.points + 2 → IsErrAnd r (λ z. z ≡ NoPlace))
        → (l.found.met < length l.met.now / 5 → 2 * l.found.points + 2 ≤ length l.points.now → IsOk r × (l'.found ≡ record { met = l.found.met + 1; points = l.found.points + 1 })
        × (l'.points.now ≡ put l.points.now (2 * l.found.points) (a ∷ b ∷ []))
        × (l'.met.now ≡ put l.met.now (5 * l.found.met) (i ∷ j ∷ 1 ∷ (first + l.found.points) ∷ 0 ∷ []))) → Answered those l l' r
    at_new a b t none added = onto those (new l first i j a b ∷ []) l l' r (told (New a b) t) (answered_new l first i j a b l' r same over none added)
