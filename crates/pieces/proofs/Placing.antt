-- What placing leaves: all that is yielded in the lists, or a refusal and zeros; and one yield behind another. Assumes nothing.
use mathlib.Core.Path.{◌≡◌, refl, sym, ap, ap₂, ◌∙◌}
use mathlib.Core.List.{List, ◌++◌, map-append, append-nil, append_assoc}
use Prim.Native.Nat.{ℕ, zero, suc, ◌+◌, ◌-◌, ◌≤◌, ◌<◌}
use native.Mathlib.Nat.{add-zero, zero-add, suc-add}
use native.Mathlib.Numerals.{add-one}
use native.Mathlib.Omega.{arith}
use lib.ListN.{length, replicate, length-append, length-replicate, replicate-append-replicate}
use borrow.Author.Tests.{eq-eqb, ne_eqb}
use Rattle.lists.specs.Regions.{put}
use Rattle.lists.proofs.Regions.{length_put, put_none, put_append}
use Rattle.cutting.specs.Outcome.{flat, stops}
use Rattle.cutting.proofs.Runs.{stops_length}
use Rattle.rules.specs.Refusals.{Event, piece, first_refusal}
use Rattle.std.specs.Prelude.{Result, Ok, Err, IfOk}
use Rattle.refusals.specs.declared.Refusal.{Refusal}
use Rattle.refusals.specs.Numbers.{number, refused_with}
use Rattle.refusals.proofs.Numbers.{some_not_zero}
use Rattle.pieces.specs.declared.Listed.{Listed}
use Rattle.pieces.specs.Pieces.{events, Yield, tagged, nothing, both, all_of, Placing, placing, refused_by, placed_behind}
use Rattle.pieces.proofs.Room.{flat_append, stops_append, fits, behind, refused}

-- ---- yields

-- what is yielded without a refusal is the placing of its pieces, and each has a tag
pub record Steady (y : Yield) : Type 0 where
  pub placing : (q n : ℕ) → first_refusal 0 0 q n y.events ≡ 0 → y.events ≡ events y.pieces
  pub tags : length y.tags ≡ length y.pieces

pub steady_tagged : (t : ℕ) (ks : List (List ℕ)) → Steady (tagged t ks)
steady_tagged t ks = record { placing = λ q n z. refl; tags = length-replicate (length ks) t }

pub tagged_both : (t : ℕ) (ks ls : List (List ℕ)) → tagged t (ks ++ ls) ≡ both (tagged t ks) (tagged t ls)
tagged_both t ks ls =
    let es : events (ks ++ ls) ≡ events ks ++ events ls = map-append (λ q. piece (length q)) ks ls in
    let ts : replicate (length (ks ++ ls)) t ≡ replicate (length ks) t ++ replicate (length ls) t =
    sym (replicate-append-replicate (length ks) (length ls) t ∙ ap (λ (x : ℕ). replicate x t) (sym (length-append ks ls))) in
    λ i. record { events = es i; pieces = ks ++ ls; tags = ts i }

pub all_of_more : (f : ℕ → Yield) (i : ℕ) → all_of (i + 1) f ≡ both (all_of i f) (f i)
unfolding all_of
all_of_more f i = rw add-one

-- the first n stand before the others
pub all_of_behind : (f : ℕ → Yield) (n k : ℕ) → (more : Yield) × (all_of (k + n) f ≡ both (all_of n f) more)
unfolding all_of
all_of_behind f n zero = rw zero-add (
  nothing,
  λ i. record {
    events = sym (append-nil (all_of n f).events) i;
    pieces = sym (append-nil (all_of n f).pieces) i;
    tags = sym (append-nil (all_of n f).tags) i;
  },
)
all_of_behind f n (suc k) =
    let h = all_of_behind f n k in
    rw suc-add (both h.0 (f (k + n)), ap (λ (y : Yield). both y (f (k + n))) h.1 ∙ both_assoc (all_of n f) h.0 (f (k + n)))
  where
    both_assoc : (x y z : Yield) → both (both x y) z ≡ both x (both y z)
    both_assoc x y z = λ i. record {
      events = append_assoc x.events y.events z.events i;
      pieces = append_assoc x.pieces y.pieces z.pieces i;
      tags = append_assoc x.tags y.tags z.tags i;
    }

-- a refusal that is not met with more behind is not met without
calm_first : (q n : ℕ) (es fs : List Event) → first_refusal 0 0 q n (es ++ fs) ≡ 0 → first_refusal 0 0 q n es ≡ 0
calm_first q n es fs e = go (first_refusal 0 0 q n es) refl
  where
    go : (x : ℕ) → first_refusal 0 0 q n es ≡ x → first_refusal 0 0 q n es ≡ 0
    go zero h = h
    go (suc x) h = absurd (omega (arith, refused (first_refusal 0 0 q n es) es fs 0 0 q n (λ z. absurd (omega (arith, h, z))) refl, h, e))

pub steady_nothing : Steady nothing
steady_nothing = record { placing = λ q n z. refl; tags = refl }

pub steady_both : (y z : Yield) → Steady y → Steady z → Steady (both y z)
steady_both y z s t =
    record {
      placing = λ q n e.
          let one = calm_first q n y.events z.events e in
          let es = s.placing q n one in
          let f = fits y.pieces 0 0 q n (ap (first_refusal 0 0 q n) (sym es) ∙ one) in
          let rest = sym (behind y.pieces z.events 0 0 q n f.0 f.1) ∙ ap (λ (l : List Event). first_refusal 0 0 q n (l ++ z.events)) (sym es) ∙ e in
          ap₂ (λ (a b : List Event). a ++ b) es (t.placing (q - length y.pieces) (n - length (flat y.pieces)) rest)
          ∙ sym (map-append (λ k. piece (length k)) y.pieces z.pieces);
      tags = omega (arith, s.tags, t.tags, length-append y.tags z.tags, length-append y.pieces z.pieces);
    }

pub steady_all : (f : ℕ → Yield) (n : ℕ) → ((i : ℕ) → i < n → Steady (f i)) → Steady (all_of n f)
unfolding all_of
steady_all f zero h = steady_nothing
steady_all f (suc n) h = steady_both (all_of n f) (f n) (steady_all f n (λ i l. h i (omega (arith, l)))) (h n (omega arith))

-- ---- one placing

-- all of the pieces stand in the lists behind those that p counts
pub record AllPlaced (p : Listed) (y : Yield) (on oe ot : List ℕ) (r : Listed) (on' oe' ot' : List ℕ) : Type 0 where
  pub counted : r.count ≡ p.count + length y.pieces
  pub entered : r.entries ≡ p.entries + length (flat y.pieces)
  pub corners : on' ≡ put on p.entries (flat y.pieces)
  pub ends : oe' ≡ put oe p.count (stops p.entries y.pieces)
  pub tags : ot' ≡ put ot p.count y.tags

-- the number of the refusal that an answer is, or 0
abbrev pub code_of : Result Listed ℕ → ℕ
code_of (Ok x) = 0
code_of (Err k) = k

module _ (p : Listed) (y : Yield) (on oe ot : List ℕ) where
  abbrev met : ℕ
  met = first_refusal 0 0 (length oe - p.count) (length on - p.entries) y.events

  abbrev counted : Listed
  counted = record { count = p.count + length y.pieces; entries = p.entries + length (flat y.pieces) }

  pub placed_all : first_refusal 0 0 (length oe - p.count) (length on - p.entries) y.events ≡ 0
      → placed_behind p y on oe ot
      ≡ placing (Ok (record { count = p.count + length y.pieces; entries = p.entries + length (flat y.pieces) }))
      (put on p.entries (flat y.pieces)) (put oe p.count (stops p.entries y.pieces)) (put ot p.count y.tags)
  unfolding placed_behind
  placed_all z = rw (eq-eqb met 0 z)

  pub placed_not : (first_refusal 0 0 (length oe - p.count) (length on - p.entries) y.events ≡ 0 → ⊥)
      → placed_behind p y on oe ot ≡ refused_by (first_refusal 0 0 (length oe - p.count) (length on - p.entries) y.events) on oe ot
  unfolding placed_behind
  placed_not h = rw (ne_eqb met 0 h)

  -- the answer's number is that of the first refusal met
  pub code_is : code_of (placed_behind p y on oe ot).answer ≡ first_refusal 0 0 (length oe - p.count) (length on - p.entries) y.events
  code_is = go met refl
    where
      go : (x : ℕ) → met ≡ x → code_of (placed_behind p y on oe ot).answer ≡ met
      go zero e = ap (λ (g : Placing). code_of g.answer) (placed_all e) ∙ sym e
      go (suc x) e = ap (λ (g : Placing). code_of g.answer) (placed_not (λ z. absurd (omega (arith, e, z))))

  module _ (e : Refusal) (told : Err (number e) ≡ (placed_behind p y on oe ot).answer) where
    pub refusal_met : number e ≡ first_refusal 0 0 (length oe - p.count) (length on - p.entries) y.events
    refusal_met = ap code_of told ∙ code_is

    pub refuses : placed_behind p y on oe ot ≡ refused_by (number e) on oe ot
    refuses = placed_not (λ z. some_not_zero e (refusal_met ∙ z)) ∙ ap (λ (k : ℕ). refused_by k on oe ot) (sym refusal_met)

    -- lists of the same length zeroed
    pub zeroed : (on₁ oe₁ ot₁ : List ℕ) → length on₁ ≡ length on → length oe₁ ≡ length oe → length ot₁ ≡ length ot
        → refused_by (number e) on₁ oe₁ ot₁ ≡ placed_behind p y on oe ot
    zeroed on₁ oe₁ ot₁ ln le lt = rw (ln, le, lt) (sym refuses)

  pub code_met : (r : Result Listed Refusal) (on' oe' ot' : List ℕ) → placing r on' oe' ot' ≡ placed_behind p y on oe ot
      → refused_with r ≡ first_refusal 0 0 (length oe - p.count) (length on - p.entries) y.events
  code_met (Ok r) on' oe' ot' placed = ap (λ (g : Placing). code_of g.answer) placed ∙ code_is
  code_met (Err e) on' oe' ot' placed = ap (λ (g : Placing). code_of g.answer) placed ∙ code_is

  module _ (r : Listed) (on' oe' ot' : List ℕ) (placed : placing (Ok r) on' oe' ot' ≡ placed_behind p y on oe ot) where
    pub none_met : first_refusal 0 0 (length oe - p.count) (length on - p.entries) y.events ≡ 0
    none_met = sym (code_met (Ok r) on' oe' ot' placed)

    pub all_placed : AllPlaced p y on oe ot r on' oe' ot'
    all_placed =
        let e = placed ∙ placed_all none_met in
        let answer : r ≡ counted = ap (λ (g : Placing). listed_in g.answer) e in
        record {
          counted = ap (λ (l : Listed). l.count) answer;
          entered = ap (λ (l : Listed). l.entries) answer;
          corners = ap (λ (g : Placing). g.corners) e;
          ends = ap (λ (g : Placing). g.ends) e;
          tags = ap (λ (g : Placing). g.tags) e;
        }
      where
        listed_in : Result Listed ℕ → Listed
        listed_in (Ok l) = l
        listed_in (Err k) = counted

    -- what is counted has its place
    pub fit : Steady y → p.count ≤ length oe → p.entries ≤ length on → (r.count ≤ length oe) × (r.entries ≤ length on)
    fit s hc he =
        let f = fits y.pieces 0 0 (length oe - p.count) (length on - p.entries)
        (ap (first_refusal 0 0 (length oe - p.count) (length on - p.entries)) (sym (s.placing (length oe - p.count) (length on - p.entries) none_met)) ∙ none_met) in
        (omega (arith, hc, f.0, all_placed.counted), omega (arith, he, f.1, all_placed.entered))

  -- no more is counted than is yielded
  pub counted_most : (r : Result Listed Refusal) (on' oe' ot' : List ℕ) → placing r on' oe' ot' ≡ placed_behind p y on oe ot
      → IfOk r (λ q. (q.count ≤ p.count + length y.pieces) × (q.entries ≤ p.entries + length (flat y.pieces)))
  counted_most (Err e) on' oe' ot' placed = tt
  counted_most (Ok q) on' oe' ot' placed = let a = all_placed q on' oe' ot' placed in (omega (arith, a.counted), omega (arith, a.entered))

-- ---- yields behind yields

pub placed_nothing : (p : Listed) (on oe ot : List ℕ) → placed_behind p nothing on oe ot ≡ placing (Ok p) on oe ot
unfolding placed_behind first_refusal flat stops
placed_nothing p on oe ot = rw (add-zero p.count, add-zero p.entries, put_none on p.entries, put_none oe p.count, put_none ot p.count)

-- room that is taken up
left_over : (a b c n : ℕ) → c ≡ b + n → a - c ≡ a - b - n
left_over a b c n e = omega (arith, e)

below : (a b n : ℕ) → b ≤ a → b + n ≤ a → n ≤ a - b
below a b n h k = omega (arith, h, k)

-- a region right behind another
put_on : {A : Type 0} (w w₁ xs ys : List A) (b b₁ : ℕ) → w₁ ≡ put w b xs → b₁ ≡ b + length xs → b + length xs ≤ length w → put w₁ b₁ ys ≡ put w b (xs ++ ys)
put_on w w₁ xs ys b b₁ e f h = ap₂ (λ v c. put v c ys) e f ∙ put_append w b (omega arith) xs ys h

module _ (p : Listed) (y z : Yield) (on oe ot : List ℕ) where
  abbrev met_all : ℕ
  met_all = first_refusal 0 0 (length oe - p.count) (length on - p.entries) (y.events ++ z.events)

  -- a refusal of the first is that of both
  pub refused_first : (e : Refusal) → Err (number e) ≡ (placed_behind p y on oe ot).answer → placed_behind p (both y z) on oe ot ≡ placed_behind p y on oe ot
  refused_first e told =
      let none : met p y on oe ot ≡ 0 → ⊥ = λ n. some_not_zero e (refusal_met p y on oe ot e told ∙ n) in
      let same : met p y on oe ot ≡ met_all =
      refused (met p y on oe ot) y.events z.events 0 0 (length oe - p.count) (length on - p.entries) none refl in
      placed_not p (both y z) on oe ot (λ n. none (same ∙ n)) ∙ ap (λ (x : ℕ). refused_by x on oe ot) (sym same) ∙ sym (placed_not p y on oe ot none)

  -- where the first is placed the other goes behind it
  module _ (s : Steady y) (hc : p.count ≤ length oe) (ht : length oe ≤ length ot) (he : p.entries ≤ length on)
      (r : Listed) (on' oe' ot' : List ℕ) (placed : placing (Ok r) on' oe' ot' ≡ placed_behind p y on oe ot) where
    abbrev ks : List (List ℕ)
    ks = y.pieces

    abbrev ls : List (List ℕ)
    ls = z.pieces

    a : AllPlaced p y on oe ot r on' oe' ot'
    a = all_placed p y on oe ot r on' oe' ot' placed

    ends_long : length (stops p.entries ks) ≡ length ks
    ends_long = stops_length p.entries ks

    in_oe : p.count + length ks ≤ length oe
    in_oe = let f = fit p y on oe ot r on' oe' ot' placed s hc he in omega (arith, f.0, a.counted)

    in_on : p.entries + length (flat ks) ≤ length on
    in_on = let f = fit p y on oe ot r on' oe' ot' placed s hc he in omega (arith, f.1, a.entered)

    pub same_on_lem : length on' ≡ length on
    same_on_lem = ap length a.corners ∙ length_put on p.entries he (flat ks) in_on

    pub same_oe_lem : length oe' ≡ length oe
    same_oe_lem = ap length a.ends ∙ length_put oe p.count hc (stops p.entries ks) (omega (arith, in_oe, ends_long))

    pub same_ot_lem : length ot' ≡ length ot
    same_ot_lem = ap length a.tags ∙ length_put ot p.count (omega (arith, hc, ht)) y.tags (omega (arith, in_oe, ht, s.tags))

    pub placed_behind_lem : placed_behind p (both y z) on oe ot ≡ placed_behind r z on' oe' ot'
    unfolding placed_behind
    placed_behind_lem =
        let none : met p y on oe ot ≡ 0 = none_met p y on oe ot r on' oe' ot' placed in
        let code : met_all ≡ first_refusal 0 0 (length oe' - r.count) (length on' - r.entries) z.events =
        ap (λ (es : List Event). first_refusal 0 0 (length oe - p.count) (length on - p.entries) (es ++ z.events))
        (s.placing (length oe - p.count) (length on - p.entries) none)
        ∙ behind ks z.events 0 0 (length oe - p.count) (length on - p.entries) (below (length oe) p.count (length ks) hc in_oe)
        (below (length on) p.entries (length (flat ks)) he in_on)
        ∙ ap₂ (λ (u v : ℕ). first_refusal 0 0 u v z.events)
        (sym (left_over (length oe) p.count r.count (length ks) a.counted) ∙ ap (λ (x : ℕ). x - r.count) (sym same_oe_lem))
        (sym (left_over (length on) p.entries r.entries (length (flat ks)) a.entered) ∙ ap (λ (x : ℕ). x - r.entries) (sym same_on_lem)) in
        let counted : p.count + length (ks ++ ls) ≡ r.count + length ls = omega (arith, a.counted, length-append ks ls) in
        let entered : p.entries + length (flat (ks ++ ls)) ≡ r.entries + length (flat ls) =
        omega (arith, a.entered, ap length (flat_append ks ls), length-append (flat ks) (flat ls)) in
        let corners : put on p.entries (flat (ks ++ ls)) ≡ put on' r.entries (flat ls) =
        sym (put_on on on' (flat ks) (flat ls) p.entries r.entries a.corners a.entered in_on ∙ ap (put on p.entries) (sym (flat_append ks ls))) in
        let ends : put oe p.count (stops p.entries (ks ++ ls)) ≡ put oe' r.count (stops r.entries ls) =
        sym (ap (λ (x : ℕ). put oe' r.count (stops x ls)) a.entered
        ∙ put_on oe oe' (stops p.entries ks) (stops (p.entries + length (flat ks)) ls) p.count r.count a.ends (omega (arith, a.counted, ends_long))
        (omega (arith, in_oe, ends_long))
        ∙ ap (put oe p.count) (sym (stops_append p.entries ks ls))) in
        let tags : put ot p.count (y.tags ++ z.tags) ≡ put ot' r.count z.tags =
        sym (put_on ot ot' y.tags z.tags p.count r.count a.tags (omega (arith, a.counted, s.tags)) (omega (arith, in_oe, ht, s.tags))) in
        let on_long = sym same_on_lem in
        let oe_long = sym same_oe_lem in
        let ot_long = sym same_ot_lem in
        rw (code, counted, entered, corners, ends, tags, on_long, oe_long, ot_long)
