-- What the definitions say of things as they are lent. Assumes nothing.
use Rattle.std.specs.Prelude.{List, ℕ}
use Rattle.strips.specs.declared.things.Things.{Things}
use Rattle.strips.specs.declared.squares.Axis.{Axis}
use Rattle.strips.specs.Things.{thing_count}
use Rattle.strips.specs.Index.{samples_of, bounds_of, span_by, chain_by, index_of}

abbrev pub count_of : Things → ℕ
count_of t = thing_count t.nodes.now t.ends.now

abbrev pub samples_in : Things → Axis → ℕ → List ℕ
samples_in t = samples_of t.coords.now t.nodes.now t.ends.now

abbrev pub bounds_in : Things → Axis → List ℕ
bounds_in t = bounds_of t.coords.now t.nodes.now t.ends.now

-- the chain of thing j, and its level, where strips begin at xs and ys
abbrev pub chain_in : Things → List ℕ → List ℕ → ℕ → ℕ
chain_in t xs ys = chain_by t.coords.now xs ys t.nodes.now t.ends.now

abbrev pub level_in : Things → List ℕ → List ℕ → ℕ → ℕ
level_in t xs ys j = (span_by t.coords.now xs ys t.nodes.now t.ends.now j).level

abbrev pub index_in : Things → List ℕ
index_in t = index_of t.coords.now t.nodes.now t.ends.now
