-- What the scans of the corners and the edges count, and how the climb goes on and ends. Assumes nothing.
use mathlib.Core.Path.{◌≡◌, refl, sym, ◌∙◌, ap, ap₂, subst}
use mathlib.Core.List.{List, [], ◌∷◌, ◌++◌}
use mathlib.Core.Bool.{Bool, true, false, cond, not, ◌&&◌, and-true, false≢true}
use Prim.Native.Nat.{ℕ, zero, suc, ◌+◌, ◌-◌, ◌≤◌, ◌<◌}
use native.Mathlib.Omega.{arith}
use native.Mathlib.Nat.{zero-add}
use lib.ListN.{length, get_or, take}
use Rattle.std.proofs.Common.{append-nil}
use lib.Ieee.{Float, lt, unlike, is_nan}
use Rattle.std.specs.Prelude.{Option, None, Some}
use Rattle.std.specs.Option.{option_and_then}
use Rattle.std.specs.List.{list_all, fold, FoldsTo}
use Rattle.std.specs.Fn.{Called}
use denote.Param.Members.{Mut}
use Rattle.std.specs.Iterator.{YieldsThen, TryFoldTurn, TryFoldsItems}
use Rattle.std.specs.Option.{MatchOption}
use Rattle.std.specs.ControlFlow.{continue_value}
use Rattle.std.proofs.lemmas.List.{map-id}
use Rattle.std.proofs.lemmas.Iterator.{YieldsList}
use Rattle.std.proofs.lemmas.Iterator.Consumers.{YieldsList-so_far, YieldsList-turn, YieldsList-end}
use Rattle.std.proofs.lemmas.Option.{none-some, same_Some}
use Rattle.std.proofs.lemmas.List.Folds.{list_all-append, fold_stuck}
use Rattle.lists.specs.Search.{bit}
use Rattle.lists.specs.Gather.{gathered, each, all, tally}
use Rattle.lists.specs.Sort.{sorted}
use Rattle.lists.proofs.Gather.{length_each, all_snoc, tally_le}
use Rattle.lists.proofs.Sort.{length_sorted}
use Rattle.plane.specs.Plane.{is_number}
use Rattle.corners.specs.Corners.{corner_at, corner_after}
use Rattle.polygons.specs.Interior.{height_at, heights, foot, passed, crossed, crossing_at, lowest}
use Rattle.polygons.specs.Scans.{exceeds, first_above, closer, up_to, climbed, climb_to, taken, with_crossing}
use Rattle.plane.specs.declared.Point.{Point}
use Rattle.plane.proofs.FloatOrder.{lt_irrefl, number_not_nan}
use Rattle.polygons.specs.declared.Climb.{Climb}
use Rattle.polygons.specs.declared.Lowest.{Lowest}
use Rattle.polygons.proofs.Ascent.{not_back, passed_at}
use Rattle.polygons.proofs.Scans.{above_more, exceeds_trans, lowest_more}

-- ---- the corners and the edges, one after the other

pub numbers_are : (n : ℕ) (f : ℕ → Point) → list_all (λ p. not (is_nan p.y)) (each n f) ≡ all is_number (each n (λ i. (f i).y))
unfolding gathered all
numbers_are zero f = refl
numbers_are (suc n) f =
    list_all-append (λ p. not (is_nan p.y)) (each n f) (f n ∷ [])
    ∙ ap₂ (λ a b. a && b) (numbers_are n f) (and-true (not (is_nan (f n).y)) ∙ number_not_nan (f n).y)
    ∙ sym (all_snoc is_number (each n (λ i. (f i).y)) (f n).y)

pub above_turn : (h : Option Float) (cs : List Float) (ps : List ℕ) (k : ℕ)
    → first_above h (sorted lt (each (suc k) (height_at cs ps))) ≡ closer h (first_above h (sorted lt (each k (height_at cs ps)))) (height_at cs ps k)
unfolding gathered
above_turn h cs ps k = above_more h (each k (height_at cs ps)) (height_at cs ps k)

pub lowest_turn : (cs : List Float) (ps : List ℕ) (m : Float) (k : ℕ)
    → lowest (gathered (suc k) (crossed cs ps m))
    ≡ option_and_then (with_crossing m (corner_at cs ps k) (corner_at cs ps (corner_after (length ps) k))) (lowest (gathered k (crossed cs ps m)))
unfolding gathered crossed with_crossing
lowest_turn cs ps m k =
    let a = corner_at cs ps k in
    let b = corner_at cs ps (corner_after (length ps) k) in
    go (gathered k (crossed cs ps m)) (crossing_at a b m) (unlike (lt a.y m) (lt b.y m))
  where
    still : (o : Option Lowest) → o ≡ option_and_then Some o
    still None = refl
    still (Some l) = refl

    go : (xs : List Float) (x : Float) (p : Bool) → lowest (xs ++ cond p (x ∷ []) []) ≡ option_and_then (λ l. cond p (taken l x) (Some l)) (lowest xs)
    go xs x true = lowest_more xs x
    go xs x false = ap lowest (append-nil xs) ∙ still (lowest xs)

-- ---- the climb

stays : (k i : ℕ) (ys : List Float) (c : Climb) → c ≡ climb_to i ys → first_above c.at ys ≡ None → c ≡ climb_to (k + i) ys
unfolding climb_to climbed
stays zero i ys c e f = e ∙ ap (λ (k : ℕ). climb_to k ys) (sym (zero-add i))
stays (suc k) i ys c e f =
    let s : suc (k + i) ≡ suc k + i = omega arith in
    ap (λ (h : Option Float). up_to h c) (sym f) ∙ ap (λ (z : Climb). climbed ys z) (stays k i ys c e f) ∙ ap (λ (j : ℕ). climb_to j ys) s

fewer_pass : (p q : Float → Bool) → ((y : Float) → p y ≡ true → q y ≡ true) → (ys : List Float) → tally p ys ≤ tally q ys
unfolding tally
fewer_pass p q h [] = omega arith
fewer_pass p q h (y ∷ ys) = go (fewer_pass p q h ys) (p y) (q y) (h y)
  where
    go : tally p ys ≤ tally q ys → (a b : Bool) → (a ≡ true → b ≡ true) → bit a + tally p ys ≤ bit b + tally q ys
    go l false b k = omega (arith, l)
    go l true true k = omega (arith, l)
    go l true false k = absurd (false≢true (k refl))

above_is : (h : Option Float) (ys : List Float) (y : Float) → first_above h ys ≡ Some y → exceeds h y ≡ true
unfolding first_above
above_is h [] y e = absurd (none-some y e)
above_is h (z ∷ zs) y e = go (above_is h zs y) (exceeds h z) refl e
  where
    go : (first_above h zs ≡ Some y → exceeds h y ≡ true) → (p : Bool) → exceeds h z ≡ p → cond p (Some z) (first_above h zs) ≡ Some y → exceeds h y ≡ true
    go i true k f = subst (λ x. exceeds h x ≡ true) (same_Some z y f) k
    go i false k f = i f

-- fewer heights are above the next one
fewer_above : (h : Option Float) (ys : List Float) (y : Float) → first_above h ys ≡ Some y → tally (exceeds (Some y)) ys < tally (exceeds h) ys
unfolding tally first_above
fewer_above h [] y e = absurd (none-some y e)
fewer_above h (z ∷ zs) y e = go (fewer_above h zs y) (above_is h (z ∷ zs) y e) (exceeds h z) refl e
  where
    rest : exceeds h y ≡ true → tally (exceeds (Some y)) zs ≤ tally (exceeds h) zs
    rest k = fewer_pass (exceeds (Some y)) (exceeds h) (λ x l. exceeds_trans h y x k l) zs

    go : (first_above h zs ≡ Some y → tally (exceeds (Some y)) zs < tally (exceeds h) zs) → exceeds h y ≡ true → (p : Bool) → exceeds h z ≡ p → cond p (Some z) (first_above h zs) ≡ Some y
        → bit (lt y z) + tally (exceeds (Some y)) zs < bit p + tally (exceeds h) zs
    go i k true f g =
        let none : lt y z ≡ false = subst (λ x. lt x z ≡ false) (same_Some z y g) (lt_irrefl z) in
        rw none (omega (arith, rest k))
    go i k false f g = rw (not_back h z y f k) (omega (arith, i g))

-- c is reached after some steps; fewer heights are above it than steps are left
pub record Climbed (n : ℕ) (ys : List Float) (c : Climb) : Type 0 where
  pub steps : ℕ
  pub reached : c ≡ climb_to steps ys
  pub room : steps + tally (exceeds c.at) ys ≤ n

pub length_heights : (cs : List Float) (ps : List ℕ) → length (sorted lt (heights cs ps)) ≡ length ps
unfolding heights
length_heights cs ps = length_sorted lt (heights cs ps) ∙ length_each (length ps) (height_at cs ps)

pub at_foot : (n : ℕ) (ys : List Float) → length ys ≡ n → Climbed n ys foot
unfolding climb_to
at_foot n ys e = record { steps = 0; reached = refl; room = omega (arith, e, tally_le (exceeds None) ys) }

module _ (n : ℕ) (ys : List Float) (c : Climb) (h : Option Float) (e : h ≡ first_above c.at ys) where
  module _ (y : Float) (c' : Climb) (is : h ≡ Some y) (next : c' ≡ passed c y) where
    pub fewer_left : tally (exceeds c'.at) ys < tally (exceeds c.at) ys
    fewer_left = rw (next, passed_at c y) (fewer_above c.at ys y (sym e ∙ is))

    pub one_up : Climbed n ys c → Climbed n ys c'
    unfolding climb_to climbed
    one_up l =
        record {
          steps = suc l.steps;
          reached = next ∙ ap (λ o. up_to o c) (sym is ∙ e) ∙ ap (climbed ys) l.reached;
          room = omega (arith, l.room, fewer_left);
        }

  -- where none is above, more steps change nothing
  pub at_top : h ≡ None → Climbed n ys c → c ≡ climb_to n ys
  at_top is l =
      let s : n - l.steps + l.steps ≡ n = omega (arith, l.room) in
      stays (n - l.steps) l.steps ys c l.reached (sym e ∙ is) ∙ ap (λ (k : ℕ). climb_to k ys) s

-- ---- `try_fold` with an `Option`: it goes on while there is one

module _ {A B F : Type 0} (g : Mut F (B × (A × Unit {0})) (Option B)) (h : B → A → Option B) (f : F)
    (acts : (b : B) (x : A) (r : Option B) (q : F) → Called g f (b, (x, tt)) r q → (q ≡ f) × (r ≡ h b x)) where
  abbrev pub tried : Option B → A → Option B
  tried o x = option_and_then (λ b. h b x) o

  abbrev on_to : Type 0 → F × B → A → F × B → Type 0
  on_to E = TryFoldTurn {E = E} g (λ r k. r ≡ continue_value k)

  along : (E : Type 0) (xs : List A) (p q : F) (a b : B) → p ≡ f → FoldsTo {P = F × B} (on_to E) (p, a) xs (q, b) → (q ≡ f) × (Some b ≡ fold tried (Some a) xs)
  along E [] p q a b e k = (sym (ap (λ z. z.0) k) ∙ e, sym (ap (λ z. Some z.1) k))
  along E (x ∷ xs) p q a b e k =
      let m = k.0 in
      let v = k.1 in
      let did = acts a x v.0 m.0 (subst (λ z. Called g z (a, (x, tt)) v.0 m.0) e v.1) in
      let is : Some m.1 ≡ h a x = sym v.2 ∙ did.1 in
      let rest = along E xs m.0 q m.1 b did.0 k.2 in
      (rest.0, rest.1 ∙ ap (λ o. fold tried o xs) is)

  pub try_fold_is : {S E : Type 0} {steps : S → Option A → S → Type 0} (s u : S) (items : List A) (a : B) (r : Option B)
      → TryFoldsItems steps {E = E} g (λ v k. v ≡ continue_value k) (λ e v. v ≡ None) s f a r u
      → YieldsList steps (λ x. x) s items → r ≡ fold tried (Some a) items
  try_fold_is {E = E} {steps = steps} s u items a r t l = go t.1 t.4 t.6
    where
      xs : List A
      xs = t.0

      far : (t.2 ≡ f) × (Some t.3 ≡ fold tried (Some a) xs)
      far = along E xs f t.2 a t.3 refl t.5

      go : (o : Option A) → YieldsThen steps s xs o u
          → MatchOption o (r ≡ Some t.3) (λ x. (v : Option B) × (q : F) × (e : E) × Called g t.2 (t.3, (x, tt)) v q × (v ≡ None) × (r ≡ None)) → r ≡ fold tried (Some a) items
      go None y m =
          let same : xs ≡ items = sym (map-id xs) ∙ (YieldsList-end l xs y.0 y.1 None u refl y.2).0 in
          m ∙ far.1 ∙ ap (fold tried (Some a)) same
      go (Some x) y m =
          let front : xs ≡ take (length xs) items = sym (map-id xs) ∙ YieldsList-so_far l xs y.0 y.1 in
          let here = YieldsList-turn l xs y.0 y.1 (Some x) u x refl y.2 in
          let stop : h t.3 x ≡ None = sym (acts t.3 x m.0 m.1 (subst (λ z. Called g z (t.3, (x, tt)) m.0 m.1) far.0 m.3)).1 ∙ m.4 in
          let at : tried (fold tried (Some a) (take (length xs) items)) (get_or items (length xs) x) ≡ None =
          ap₂ tried (sym (far.1 ∙ ap (fold tried (Some a)) front)) (sym here.1) ∙ stop in
          m.5 ∙ fold_stuck tried None (λ z. refl) (Some a) items (length xs) x here.0 at
