-- A cell's pieces before any are dropped, or the number of a refusal. Assumes nothing.
use Rattle.std.specs.Prelude.{Bool, true, cond, not, ◌&&◌, ◌||◌, List, [], ◌∷◌, ◌++◌, ℕ, ◌+◌, ltb, length}
use Rattle.lists.specs.Gather.{all}
use Rattle.cutting.specs.Edges.{Edge, ring, rings, times}
use Rattle.cutting.specs.Edition.{Edition, ours}
use Rattle.cutting.specs.Cell.{repeats, doubled}
use Rattle.cutting.specs.declared.Slot.{Slot}
use Rattle.cutting.specs.Walk.{Next, more, closed, stuck, broken, walk_with}

pub data Outcome : Type 0 where
  refusal : ℕ → Outcome
  pieces : List (List ℕ) → Outcome

-- what the walk alone comes to (`broken` and `more` are never reached: `walk_ends`)
abbrev pub of_walk : Next → Outcome
of_walk (closed ps) = pieces ps
of_walk stuck = refusal 11
of_walk broken = refusal 11
of_walk (more s) = refusal 11

-- 11, after the walk

abbrev pub walked : ℕ → ℕ → List Edge → Bool
walked a b es = ltb 0 (times a b es)

-- each outline dart is walked and its reverse isn't, and no other edge is walked one way only
unfoldable pub closes_up : List Edge → List Edge → Bool
closes_up outline es =
    all (λ e. walked e.0 e.1 es && not (walked e.1 e.0 es)) outline
    && all (λ e. walked e.0 e.1 outline || walked e.1 e.0 outline || walked e.1 e.0 es) es

-- 11 where they don't close up so; before W14 a doubled cell wasn't asked
abbrev pub after_walk : List Edge → Bool → Outcome → Outcome
after_walk outline unasked (refusal k) = refusal k
after_walk outline unasked (pieces ps) = cond (unasked || closes_up outline (rings ps)) (pieces ps) (refusal 11)

-- 10: over 1,024 slots
abbrev pub too_many : ℕ → Bool
too_many n = ltb 1024 n

-- what a cut cell comes to: 19, 10, 11 or its pieces
unfoldable pub cut_outcome_with : Edition → List Edge → List Slot → Outcome
cut_outcome_with v outline t =
    cond (v.once && repeats outline) (refusal 19)
    (cond (too_many (length t)) (refusal 10)
    (after_walk outline (not v.once && doubled t) (of_walk (walk_with v.turning outline t))))

abbrev pub cut_outcome : List Edge → List Slot → Outcome
cut_outcome outline t = cut_outcome_with ours outline t

-- a copied cell is its one piece, or 19
abbrev pub copied_outcome_with : Bool → List ℕ → Outcome
copied_outcome_with once cell = cond (once && repeats (ring cell)) (refusal 19) (pieces (cell ∷ []))

abbrev pub copied_outcome : List ℕ → Outcome
copied_outcome cell = copied_outcome_with true cell

-- ---- pieces as runs of one flat list

-- the corners of all pieces
unfoldable pub flat : List (List ℕ) → List ℕ
flat [] = []
flat (p ∷ ps) = p ++ flat ps

-- where each piece ends among them, after the first k corners
unfoldable pub stops : ℕ → List (List ℕ) → List ℕ
stops k [] = []
stops k (p ∷ ps) = (k + length p) ∷ stops (k + length p) ps
