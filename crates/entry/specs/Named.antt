-- The numbers of operations and kinds. Assumes nothing.
use Rattle.std.specs.Prelude.{◌≡◌, ◌≢◌, ◌<◌, ℕ, Result, MatchResult}
use Rattle.refusals.specs.declared.Refusal.{Refusal}
use Rattle.refusals.specs.declared.Refusal.TheVariants.{Call}
use Rattle.entry.specs.declared.operation.Operation.{Operation}
use Rattle.entry.specs.declared.operation.Operation.TheVariants.{Imprint, Union, Intersection, Difference, SymmetricDifference, Lines}
use Rattle.entry.specs.declared.kinds.Kind.{Kind}
use Rattle.entry.specs.declared.kinds.Kind.TheVariants.{Seg2, Tri3, Quad4, Pgon}
use Rattle.entry.specs.declared.kinds.UnknownKind.{UnknownKind}

-- "Operations: 0 Imprint, 1 Union, 2 Intersection, 3 Difference, 4 SymmetricDifference, 5 lines"
abbrev pub op_number : Operation → ℕ
op_number Imprint = 0
op_number Union = 1
op_number Intersection = 2
op_number Difference = 3
op_number SymmetricDifference = 4
op_number Lines = 5

-- "Kinds are 1 SEG2, 5 TRI3, 8 QUAD4, 11 PGON"
abbrev pub kind_number : Kind → ℕ
kind_number Seg2 = 1
kind_number Tri3 = 5
kind_number Quad4 = 8
kind_number Pgon = 11

-- the operation with this number, or refusal 1 where there is none
abbrev pub NamesOperation : ℕ → Result Operation Refusal → Type 0
NamesOperation op r = MatchResult r (λ o. op_number o ≡ op) (λ e. (e ≡ Call) × (5 < op))

-- the kind with this number, or an error with a number that no kind has
abbrev pub NamesKind : ℕ → Result Kind UnknownKind → Type 0
NamesKind k r = MatchResult r (λ o. kind_number o ≡ k) (λ e. (e.0 ≡ k) × (k ≢ 1) × (k ≢ 5) × (k ≢ 8) × (k ≢ 11))
