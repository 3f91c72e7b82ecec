-- The lists of an output after a call that was lent it: the same lists, and what they are where it clears them. Assumes nothing.
use Rattle.std.specs.Prelude.{◌≡◌, length}
use Rattle.lists.specs.Regions.{zeros, fzeros}
use Rattle.lists.specs.Same.{SameList}
use Rattle.views.specs.declared.OutputView.{OutputView}

pub record SameLists (l m : OutputView) : Type 0 where
  pub coords : SameList l.coords m.coords
  pub layers : SameList l.layers m.layers
  pub nodes : SameList l.nodes m.nodes
  pub ends : SameList l.ends m.ends
  pub kinds : SameList l.kinds m.kinds
  pub families : SameList l.families m.families
  pub meshes : SameList l.meshes m.meshes
  pub cells : SameList l.cells m.cells

-- where l is cleared it is m
pub record Cleared (l m : OutputView) : Type 0 where
  pub coords : m.coords.now ≡ fzeros (length l.coords.now)
  pub layers : m.layers.now ≡ zeros (length l.layers.now)
  pub nodes : m.nodes.now ≡ zeros (length l.nodes.now)
  pub ends : m.ends.now ≡ zeros (length l.ends.now)
  pub kinds : m.kinds.now ≡ zeros (length l.kinds.now)
  pub families : m.families.now ≡ zeros (length l.families.now)
  pub meshes : m.meshes.now ≡ zeros (length l.meshes.now)
  pub cells : m.cells.now ≡ zeros (length l.cells.now)
