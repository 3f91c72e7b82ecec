-- A lent list after a call: the same list, as long as it was, written or not. Assumes nothing.
use Rattle.std.specs.Prelude.{◌≡◌, List, length}
use denote.Ref.{MutBor}

pub record SameList {A : Type 0} (l m : MutBor (List A)) : Type 0 where
  pub name : l.ghost_name ≡ m.ghost_name
  pub long : length l.now ≡ length m.now
