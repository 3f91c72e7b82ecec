-- Runs of a flat list by their ends: the list of them, one by one and by number, pieces read back, and the room that they take up. Assumes nothing.
use mathlib.Core.Path.{◌≡◌, refl, sym, ap, ap₂, ◌∙◌}
use mathlib.Core.Bool.{Bool, true, false}
use mathlib.Core.List.{List, [], ◌∷◌, ◌++◌, append_assoc}
use Prim.Native.Nat.{ℕ, zero, suc, ◌+◌, ◌-◌, ◌≤◌, ◌<◌}
use native.Mathlib.Nat.{le_trans}
use native.Mathlib.Omega.{arith}
use lib.ListN.{length, get_or, take, drop, length-append}
use lib.Seq.{take_at, drop_at}
use Rattle.lists.specs.Gather.{passing}
use Rattle.lists.specs.Regions.{run}
use Rattle.lists.specs.Runs.{runs_from, runs}
use Rattle.lists.proofs.Gather.{length_each, get_or_each}
use Rattle.lists.proofs.Regions.{length_run}
use Rattle.cutting.specs.Outcome.{flat, stops}
use Rattle.entry.specs.Mesh.{mesh, prior, Rising}
use Rattle.entry.proofs.Runs.{runs_are}
use Rattle.rules.specs.Mesh.{cell_at, cells_of}
use Rattle.pieces.specs.Pieces.{runs_of}

pub length_runs : (nodes ends : List ℕ) → length (runs_of nodes ends) ≡ length ends
unfolding cells_of
length_runs nodes ends = length_each (length ends) (cell_at (mesh [] [] nodes ends [] []))

pub run_at : (nodes ends : List ℕ) (i : ℕ) → i < length ends → get_or (runs_of nodes ends) i [] ≡ cell_at (mesh [] [] nodes ends [] []) i
unfolding cells_of
run_at nodes ends i h = get_or_each (length ends) (cell_at (mesh [] [] nodes ends [] [])) i [] h

-- one by one
pub runs_one_by_one : (nodes ends : List ℕ) → runs nodes ends ≡ runs_of nodes ends
unfolding cells_of cell_at
runs_one_by_one nodes ends = runs_are nodes ends

-- ---- pieces read back

-- behind others
back_from : (before : List ℕ) (ps : List (List ℕ)) (k : ℕ) → k ≡ length before → runs_from k (before ++ flat ps) (stops k ps) ≡ ps
unfolding runs_from run stops flat
back_from before [] k e = refl
back_from before (p ∷ ps) k e =
    let n : k + length p - k ≡ length p = omega arith in
    let here : drop k (before ++ (p ++ flat ps)) ≡ p ++ flat ps = drop_at before (p ++ flat ps) k (sym e) in
    let long : k + length p ≡ length (before ++ p) = omega (arith, e, length-append before p) in
    ap₂ (λ (x : List ℕ) (l : List (List ℕ)). x ∷ l) (ap₂ take n here ∙ take_at p (flat ps) (length p) refl)
    (ap (λ (xs : List ℕ). runs_from (k + length p) xs (stops (k + length p) ps)) (sym (append_assoc before p (flat ps))) ∙ back_from (before ++ p) ps (k + length p) long)

pub read_back : (ps : List (List ℕ)) → runs_of (flat ps) (stops 0 ps) ≡ ps
read_back ps = sym (runs_one_by_one (flat ps) (stops 0 ps)) ∙ back_from [] ps 0 refl

-- ---- they rise

-- where run j starts, the first at k
abbrev start : ℕ → List ℕ → ℕ → ℕ
start k es zero = k
start k es (suc j) = get_or es j 0

start_later : (k e : ℕ) (es : List ℕ) (j : ℕ) → start k (e ∷ es) (suc j) ≡ start e es j
start_later k e es zero = refl
start_later k e es (suc j) = refl

prior_is : (es : List ℕ) (j : ℕ) → prior es j ≡ start 0 es j
unfolding prior
prior_is es zero = refl
prior_is es (suc j) = refl

-- the first starts at k, and they end within n numbers
abbrev Up : ℕ → List ℕ → ℕ → Type 0
Up k ends n = (j : ℕ) → j < length ends → (start k ends j ≤ get_or ends j 0) × (get_or ends j 0 ≤ n)

up_later : (k e : ℕ) (ends : List ℕ) (n : ℕ) → Up k (e ∷ ends) n → Up e ends n
up_later k e ends n up j h = let u = up (suc j) (omega (arith, h)) in (omega (arith, u.0, start_later k e ends j), u.1)

stops_up : (k : ℕ) (ps : List (List ℕ)) → Up k (stops k ps) (k + length (flat ps))
unfolding stops flat
stops_up k [] j h = absurd (omega (arith, h))
stops_up k (p ∷ ps) zero h = (omega arith, omega (arith, length-append p (flat ps)))
stops_up k (p ∷ ps) (suc j) h =
    let u = stops_up (k + length p) ps j (omega (arith, h)) in
    (omega (arith, u.0, start_later k (k + length p) (stops (k + length p) ps) j), omega (arith, u.1, length-append p (flat ps)))

pub stops_rise : (ps : List (List ℕ)) → Rising (stops 0 ps) (length (flat ps))
stops_rise ps j h = let u = stops_up 0 ps j h in (omega (arith, u.0, prior_is (stops 0 ps) j), omega (arith, u.1))

-- ---- their room

short_from : (k : ℕ) (xs ends : List ℕ) → k ≤ length xs → Up k ends (length xs) → k + length (flat (runs_from k xs ends)) ≤ length xs
unfolding runs_from flat
short_from k xs [] h up = omega (arith, h)
short_from k xs (e ∷ ends) h up =
    let u = up 0 (omega arith) in
    let r : List ℕ = run xs k (e - k) in
    omega (arith, u.0, length_run xs k (e - k) (omega (arith, u.0, u.1)), length-append r (flat (runs_from e xs ends)), short_from e xs ends u.1 (up_later k e ends (length xs) up))

pub runs_short : (xs ends : List ℕ) → Rising ends (length xs) → length (flat (runs_of xs ends)) ≤ length xs
runs_short xs ends up =
    omega (arith, ap (λ (ps : List (List ℕ)). length (flat ps)) (runs_one_by_one xs ends), short_from 0 xs ends (omega arith) (λ j h. let u = up j h in (omega (arith, u.0, prior_is ends j), u.1)))

pub flat_passing : (f : List ℕ → Bool) (ps : List (List ℕ)) → length (flat (passing f ps)) ≤ length (flat ps)
unfolding flat passing
flat_passing f [] = omega arith
flat_passing f (p ∷ ps) = go (f p) (flat_passing f ps)
  where
    go : (t : Bool) → length (flat (passing f ps)) ≤ length (flat ps)
        → (let l : List (List ℕ) = elim t [ true ↦ p ∷ passing f ps | false ↦ passing f ps ] in length (flat l) ≤ length (p ++ flat ps))
    go true h = omega (arith, h, length-append p (flat (passing f ps)), length-append p (flat ps))
    go false h = omega (arith, h, length-append p (flat ps))

-- what is kept of them has no more corners than they
pub kept_within : (f : List ℕ → Bool) (runs ends : List ℕ) → Rising ends (length runs) → length (flat (passing f (runs_of runs ends))) ≤ length runs
kept_within f runs ends up = le_trans (flat_passing f (runs_of runs ends)) (runs_short runs ends up)
