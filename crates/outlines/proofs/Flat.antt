-- Darts in a flat list of pairs, and whether edges of such lists are between the same two nodes. Assumes nothing.
use mathlib.Core.Path.{◌≡◌, refl, sym, ap, ap₂, ◌∙◌}
use mathlib.Core.Bool.{Bool, true, false, ◌||◌}
use mathlib.Core.List.{List, [], ◌∷◌, ◌++◌, map, append-nil, append_assoc}
use Prim.Native.Nat.{ℕ, ◌+◌, ◌*◌, ◌/◌, ◌≤◌, ◌<◌}
use native.Mathlib.Omega.{arith}
use lib.Dec.{eqb}
use lib.ListN.{length, get_or, set, take, drop, length-append, length-set, length-drop}
use borrow.Author.Tests.{eq-eqb, ne_eqb}
use Rattle.std.specs.List.{list_any}
use Rattle.std.specs.Simd.{first_chunks}
use Rattle.lists.specs.Gather.{joined}
use Rattle.lists.specs.Regions.{front, put}
use Rattle.lists.proofs.Regions.{put_none, front_put}
use Rattle.cutting.specs.Edges.{Edge, same_key, reversed_if, hops}
use Rattle.cutting.specs.Cell.{windows, or_ends, darts_along, own_darts, among, repeats}
use Rattle.cutting.specs.Lent.{flat_edges, pair_of, pairs}
use Rattle.outlines.specs.Meets.{edges_meet}
use Rattle.cutting.proofs.Chunks.{chunked}
use Rattle.cutting.proofs.Pairs.{ends_more}

-- ---- `lay_along`

-- a list comes to hold the darts in front: r entries
abbrev pub Holds : List Edge → ℕ → List ℕ → List ℕ → Type 0
Holds darts r list list' = (r ≡ 2 * length darts) × (list' ≡ front list (flat_edges darts))

-- those of the first windows are laid; the rest of the nodes has the others
pub record Laying (inv : Bool) (nodes list₀ list rest : List ℕ) (k : ℕ) : Type 0 where
  pub same : length list ≡ length list₀
  pub done : List Edge
  pub count : k ≡ 2 * length done
  pub low : length done + length rest ≡ length nodes
  pub left : done ++ map (reversed_if inv) (windows rest) ≡ map (reversed_if inv) (windows nodes)
  pub held : list ≡ put list₀ 0 (flat_edges done)

windows_two : (rest : List ℕ) → 2 ≤ length rest → windows rest ≡ pair_of (take 2 rest) ∷ windows (drop 1 rest)
unfolding hops
windows_two [] h = absurd (omega arith)
windows_two (x ∷ []) h = absurd (omega arith)
windows_two (x ∷ y ∷ rest) h = refl

windows_none : (rest : List ℕ) → length rest < 2 → windows rest ≡ []
unfolding hops
windows_none [] h = refl
windows_none (x ∷ []) h = refl
windows_none (x ∷ y ∷ rest) h = absurd (omega arith)

module _ (inv : Bool) (nodes list₀ : List ℕ) where
  pub laying_start : (rest : List ℕ) → rest ≡ nodes → Laying inv nodes list₀ list₀ rest 0
  unfolding flat_edges joined
  laying_start rest e = rw e (record { same = refl; done = []; count = omega arith; low = omega arith; left = refl; held = sym (put_none list₀ 0) })

  module _ (list rest : List ℕ) (k : ℕ) (v : Laying inv nodes list₀ list rest k) where
    pub laying_turn : (pair rest' : List ℕ) (e : Edge) → 2 ≤ length rest → pair ≡ take 2 rest → rest' ≡ drop 1 rest → e ≡ reversed_if inv (pair_of pair)
        → k + 2 ≤ length list₀ → Laying inv nodes list₀ (set (set list k e.0) (k + 1) e.1) rest' (k + 2)
    laying_turn pair rest' e h ep er ee fits =
        let next : map (reversed_if inv) (windows rest) ≡ e ∷ map (reversed_if inv) (windows rest') =
        ap (map (reversed_if inv)) (windows_two rest h) ∙ ap₂ (λ (x : Edge) (l : List ℕ). x ∷ map (reversed_if inv) (windows l))
        (sym (ee ∙ ap (λ (l : List ℕ). reversed_if inv (pair_of l)) ep)) (sym er) in
        record {
          same = length-set (set list k e.0) (k + 1) e.1 ∙ length-set list k e.0 ∙ v.same;
          done = v.done ++ e ∷ [];
          count = omega (arith, length-append v.done (e ∷ []), v.count);
          low = omega (arith, length-append v.done (e ∷ []), v.low, ap length er, length-drop 1 rest);
          left = append_assoc v.done (e ∷ []) (map (reversed_if inv) (windows rest')) ∙ ap (λ (es : List Edge). v.done ++ es) (sym next) ∙ v.left;
          held = ends_more list₀ list 0 k e.0 e.1 v.done e (omega arith) (omega (arith, v.count)) fits v.held refl refl;
        }

    pub laying_end : length rest < 2 → Holds (map (reversed_if inv) (windows nodes)) k list₀ list
    laying_end h =
        let all : v.done ≡ map (reversed_if inv) (windows nodes) = sym (append-nil v.done) ∙ ap (λ (es : List Edge). v.done ++ map (reversed_if inv) es)
        (sym (windows_none rest h)) ∙ v.left in
        (omega (arith, v.count, ap length all), v.held ∙ ap (λ (es : List Edge). put list₀ 0 (flat_edges es)) all ∙ front_put list₀ (flat_edges (map (reversed_if inv) (windows nodes))))

-- ---- `lay_own_edge`

module _ (a b : ℕ) (nodes : List ℕ) where
  pub own_edge : length nodes ≡ 0 → own_darts (record { edge = (a, b); nodes = nodes }) ≡ map (reversed_if (eqb b a)) (windows (a ∷ b ∷ []))
  unfolding own_darts darts_along
  own_edge h = go nodes h
    where
      go : (ns : List ℕ) → length ns ≡ 0 → darts_along b (or_ends (a, b) ns) ≡ map (reversed_if (eqb b a)) (windows (a ∷ b ∷ []))
      go [] h = refl
      go (m ∷ ns) h = absurd (omega arith)

  pub own_nodes : (first : ℕ) → 0 < length nodes → first ≡ get_or nodes 0 0 → own_darts (record { edge = (a, b); nodes = nodes }) ≡ map (reversed_if (eqb b first)) (windows nodes)
  unfolding own_darts darts_along
  own_nodes first h e = go nodes h ∙ ap (λ (m : ℕ). map (reversed_if (eqb b m)) (windows nodes)) (sym e)
    where
      go : (ns : List ℕ) → 0 < length ns → darts_along b (or_ends (a, b) ns) ≡ map (reversed_if (eqb b (get_or ns 0 0))) (windows ns)
      go [] h = absurd (omega arith)
      go (m ∷ ns) h = refl

-- ---- `is_among`, `edges_repeat`, `edges_meet`: a flat list of pairs as arrays of two

abbrev pub named : List (List ℕ) → Edge → Bool
named es e = list_any (λ x. same_key (pair_of x) e) es

pub among_named : (e : Edge) (es : List (List ℕ)) → named es e ≡ among e (map pair_of es)
unfolding among
among_named e [] = refl
among_named e (x ∷ es) = ap (λ (t : Bool). same_key (pair_of x) e || t) (among_named e es)

meets_named : (es fs : List (List ℕ)) → list_any (λ x. named fs (pair_of x)) es ≡ edges_meet (map pair_of es) (map pair_of fs)
unfolding edges_meet
meets_named [] fs = refl
meets_named (x ∷ es) fs = ap₂ (λ (s t : Bool). s || t) (among_named (pair_of x) fs) (meets_named es fs)

pub meets_pairs : (r : Bool) (edges others : List ℕ) (es fs : List (List ℕ)) → es ≡ first_chunks 2 (length edges / 2) edges → fs ≡ first_chunks 2 (length others / 2) others
    → r ≡ list_any (λ x. named fs (pair_of x)) es → r ≡ edges_meet (pairs edges) (pairs others)
meets_pairs r edges others es fs e f is =
    is ∙ meets_named es fs ∙ ap₂ edges_meet (ap (map pair_of) e ∙ chunked edges) (ap (map pair_of) f ∙ chunked others)

-- ---- the edges that are left say what all say

abbrev pub said : List (List ℕ) → Bool
said es = repeats (map pair_of es)

pub all_said : (edges : List ℕ) (es : List (List ℕ)) → es ≡ first_chunks 2 (length edges / 2) edges → said es ≡ repeats (pairs edges)
all_said edges es e = ap repeats (ap (map pair_of) e ∙ chunked edges)

pub repeats_loop : (x : List ℕ) (es : List (List ℕ)) → get_or x 0 0 ≡ get_or x 1 0 → repeats (map pair_of (x ∷ es)) ≡ true
unfolding repeats
repeats_loop x es h = ap (λ (t : Bool). t || among (pair_of x) (map pair_of es) || repeats (map pair_of es)) (eq-eqb (get_or x 0 0) (get_or x 1 0) h)

pub repeats_on : (x : List ℕ) (es : List (List ℕ)) (r : Bool) → (get_or x 0 0 ≡ get_or x 1 0 → ⊥) → r ≡ named es (pair_of x)
    → repeats (map pair_of (x ∷ es)) ≡ r || repeats (map pair_of es)
unfolding repeats
repeats_on x es r apart er =
    ap₂ (λ (s t : Bool). s || t || repeats (map pair_of es)) (ne_eqb (get_or x 0 0) (get_or x 1 0) apart) (sym (er ∙ among_named (pair_of x) es))

pub repeats_none : (es : List (List ℕ)) → length es ≡ 0 → repeats (map pair_of es) ≡ false
unfolding repeats
repeats_none [] h = refl
repeats_none (x ∷ es) h = absurd (omega arith)
