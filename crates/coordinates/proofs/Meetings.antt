-- What each meeting is of, and that each new point is the one node of a meeting and stands in the list of coordinates. Assumes nothing.
use mathlib.Core.Path.{◌≡◌, refl, sym, ap, ap₂, ◌∙◌}
use mathlib.Core.List.Memᴰ
use mathlib.Core.List.{List, [], ◌∷◌, ◌++◌, append_assoc, Memᴰ}
use Prim.Native.Nat.{ℕ, suc, ◌+◌, ◌-◌, ◌*◌, ◌/◌, ◌≤◌, ◌<◌}
use native.Mathlib.Omega.{arith}
use native.Mathlib.Decide.{dec_le}
use lib.ListN.{length, get_or, length-append, get_or-append}
use lib.Seq.{get_or-append_right}
use lib.Ieee.{Float, nan}
use Rattle.lists.specs.Gather.{joined}
use Rattle.lists.proofs.Gather.{joined_append}
use Rattle.plane.specs.Plane.{point_at}
use Rattle.plane.specs.declared.Point.{Point}
use Rattle.segments.specs.declared.Meeting.{Meeting}
use Rattle.segments.specs.declared.Meeting.TheVariants.{Apart, Existing, New, Overlap}
use Rattle.cutting.specs.Edges.{edge_at}
use Rattle.grid.specs.Grid.{Grid}
use Rattle.rules.specs.Neighbours.{Net}
use Rattle.rules.specs.Meetings.{Met, segment_of, added_by, recorded, meetings, meeting_on}
use Rattle.rules.proofs.EdgePairs.{Close, next_node, PairKeeps, meetings_keep}
use Rattle.coordinates.proofs.Points.{Each, each_join, each_none, each_cons}

-- ---- the points of a longer list

-- coordinates behind those of a point don't change it
pub same_point : (coords more : List Float) (n : ℕ) → 2 * n + 1 < length coords → point_at (coords ++ more) n ≡ point_at coords n
unfolding point_at
same_point coords more n h =
    ap₂ {C = Point} (λ (x y : Float). record { x = x; y = y }) (get_or-append coords more nan (2 * n) (omega arith)) (get_or-append coords more nan (2 * n + 1) h)

-- the next one
last_point : (coords : List Float) (n : ℕ) (x y : Float) → length coords ≡ 2 * n → point_at (coords ++ x ∷ y ∷ []) n ≡ record { x = x; y = y }
unfolding point_at
last_point coords n x y h =
    let first : 2 * n - length coords ≡ 0 = omega arith in
    let second : 2 * n + 1 - length coords ≡ 1 = omega arith in
    let at = get_or (x ∷ y ∷ []) in
    ap₂ {C = Point} (λ (x y : Float). record { x = x; y = y })
    (get_or-append_right coords (x ∷ y ∷ []) (2 * n) nan (omega arith) ∙ ap (λ (i : ℕ). at i nan) first)
    (get_or-append_right coords (x ∷ y ∷ []) (2 * n + 1) nan (omega arith) ∙ ap (λ (i : ℕ). at i nan) second)

module _ (g : Grid) (coords : List Float) (s c : Net) where
  -- ---- what a meeting is of

  -- two edges whose boxes meet; a point that it brings is the new one of these
  pub data Origin (m : Met) : Type 0 where
    bare : Close g coords s c m.subject_edge m.cutter_edge → m.point ≡ [] → Origin m
    new : Close g coords s c m.subject_edge m.cutter_edge → (x y : Float) → m.point ≡ x ∷ y ∷ []
        → meeting_on g (segment_of coords (edge_at s.edges m.subject_edge)) (segment_of coords (edge_at c.edges m.cutter_edge)) ≡ New x y → Origin m

  pub origin_close : (m : Met) → Origin m → Close g coords s c m.subject_edge m.cutter_edge
  origin_close m (bare k e) = k
  origin_close m (new k x y p e) = k

  recorded_origin : (i j n : ℕ) (r : Meeting) → Close g coords s c i j → meeting_on g (segment_of coords (edge_at s.edges i)) (segment_of coords (edge_at c.edges j)) ≡ r
      → Each Origin (recorded i j n (edge_at s.edges i) (edge_at c.edges j) r)
  recorded_origin i j n Apart k e = each_none Origin
  recorded_origin i j n (Existing p) k e = each_cons _ [] (bare k refl) (each_none Origin)
  recorded_origin i j n (New x y) k e = each_cons _ [] (new k x y refl e) (each_none Origin)
  recorded_origin i j n (Overlap p q) k e = each_cons _ [] (bare k refl) (each_none Origin)

  pub meetings_origin : Each Origin (meetings g coords s c)
  meetings_origin =
      meetings_keep g coords s c (Each Origin) (each_none Origin)
      (λ i j ms r k e h. each_join ms _ h (recorded_origin i j (next_node g coords s c ms) r k e))

  -- ---- where a new point comes from

  -- with what meetings add
  abbrev pub long : List Met → List Float
  long ms = coords ++ added_by ms

  -- one of the meetings ms has the one node n, and its point stands there
  pub record Source (ms : List Met) (n : ℕ) : Type 0 where
    pub met : Met
    pub found : Memᴰ met ms
    pub node : met.nodes ≡ n ∷ []
    pub point : met.point ≡ (point_at (long ms) n).x ∷ (point_at (long ms) n).y ∷ []

  long_more : (ms ns : List Met) → long (ms ++ ns) ≡ long ms ++ added_by ns
  long_more ms ns = ap (λ (l : List Float). coords ++ l) (joined_append (λ (m : Met). m.point) ms ns) ∙ sym (append_assoc coords (added_by ms) (added_by ns))

  source_more : (ms ns : List Met) (n : ℕ) → 2 * n + 1 < length (long ms) → Source ms n → Source (ms ++ ns) n
  source_more ms ns n h f = record {
    met = f.met;
    found = Memᴰ.append_left ns f.found;
    node = f.node;
    point = f.point ∙ ap (λ (p : Point). p.x ∷ p.y ∷ []) (sym (ap (λ (l : List Float). point_at l n) (long_more ms ns) ∙ same_point (long ms) (added_by ns) n h));
  }

  -- the coordinates lent are those of the first nodes
  module _ (lent : ℕ) (even : length coords ≡ 2 * lent) where
    -- so many nodes there are with those of the meetings ms, each new one from one of these
    record Sourced (ms : List Met) : Type 0 where
      many : ℕ
      count : length (long ms) ≡ 2 * many
      from : (n : ℕ) → lent ≤ n → n < many → Source ms n

    sourced_none : Sourced []
    unfolding joined
    sourced_none = record { many = lent; count = length-append coords [] ∙ omega (arith, even); from = λ n low high. absurd (omega (arith, low, high)) }

    -- nothing added
    sourced_same : (ms ns : List Met) → length (added_by ns) ≡ 0 → Sourced ms → Sourced (ms ++ ns)
    sourced_same ms ns z h = record {
      many = h.many;
      count = ap length (long_more ms ns) ∙ length-append (long ms) (added_by ns) ∙ omega (arith, h.count, z);
      from = λ n low high. source_more ms ns n (omega (arith, high, h.count)) (h.from n low high);
    }

    -- one point added, with the next number
    sourced_new : (ms : List Met) (m : Met) (x y : Float) → m.point ≡ x ∷ y ∷ [] → (n : ℕ) → m.nodes ≡ n ∷ [] → n ≡ next_node g coords s c ms → Sourced ms → Sourced (ms ++ m ∷ [])
    unfolding joined
    sourced_new ms m x y p n one at h = record {
      many = suc h.many;
      count = ap length longer ∙ length-append (long ms) (x ∷ y ∷ []) ∙ omega (arith, h.count);
      from = λ i low high. go i low (dec_le (suc i) h.many) high;
    }
      where
        longer : long (ms ++ m ∷ []) ≡ long ms ++ x ∷ y ∷ []
        longer = long_more ms (m ∷ []) ∙ ap (λ (l : List Float). long ms ++ (l ++ [])) p

        go : (i : ℕ) → lent ≤ i → Dec (suc i ≤ h.many) → i < suc h.many → Source (ms ++ m ∷ []) i
        go i low (yes l) high = source_more ms (m ∷ []) i (omega (arith, l, h.count)) (h.from i low l)
        go i low (no l) high =
            let number : n ≡ i = omega (arith, at, l, high, h.count, length-append coords (added_by ms)) in
            record {
              met = m;
              found = Memᴰ.append_right ms (Memᴰ.head refl);
              node = one ∙ ap (λ (k : ℕ). k ∷ []) number;
              point = p ∙ ap (λ (p : Point). p.x ∷ p.y ∷ []) (sym (ap (λ (l : List Float). point_at l i) longer ∙ last_point (long ms) i x y (omega (arith, l, high, h.count))));
            }

    sourced_kept : PairKeeps g coords s c Sourced
    unfolding joined
    sourced_kept i j ms Apart k e h = sourced_same ms [] refl h
    sourced_kept i j ms (Existing p) k e h = sourced_same ms _ refl h
    sourced_kept i j ms (New x y) k e h = sourced_new ms _ x y refl (next_node g coords s c ms) refl refl h
    sourced_kept i j ms (Overlap p q) k e h = sourced_same ms _ refl h

    -- All new points, numbered behind the nodes lent.
    pub new_points_met : (n : ℕ) → lent ≤ n → n < length (coords ++ added_by (meetings g coords s c)) / 2 → Source (meetings g coords s c) n
    new_points_met n low high =
        let all = meetings_keep g coords s c Sourced sourced_none sourced_kept in
        all.from n low (omega (arith, high, all.count))
