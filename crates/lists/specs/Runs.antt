-- A flat list cut into runs by where each ends. Assumes nothing.
use Rattle.std.specs.Prelude.{List, [], ◌∷◌, ℕ, ◌-◌}
use Rattle.lists.specs.Regions.{run}
use Rattle.lists.specs.declared.runs.Runs.{Runs}

-- the runs of xs that end at the ends given, the first of them from `from` on
unfoldable pub runs_from : ℕ → List ℕ → List ℕ → List (List ℕ)
runs_from from xs [] = []
runs_from from xs (end ∷ ends) = run xs from (end - from) ∷ runs_from end xs ends

abbrev pub runs : List ℕ → List ℕ → List (List ℕ)
runs xs ends = runs_from 0 xs ends

-- those that an iterator has left
abbrev pub runs_left : Runs → List (List ℕ)
runs_left r = runs_from r.from r.numbers.now r.ends.now
