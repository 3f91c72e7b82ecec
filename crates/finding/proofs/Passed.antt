-- What this stage asks is what the entry gives. Assumes nothing.
use mathlib.Core.Bool.{Bool, false}
use Prim.Native.Nat.{ℕ}
use native.Mathlib.Omega.{arith}
use lib.Dec.{eqb}
use Rattle.settings.specs.declared.Settings.{Settings}
use Rattle.entry.specs.Mesh.{Mesh}
use Rattle.entry.specs.Passed.{Sound, Passed}
use Rattle.finding.specs.Nets.{plain, Fit, FindAsks}

abbrev pub bare : Mesh → Mesh
bare m = plain m.coords m.layers m.nodes m.ends

pub fit_of : (lines : Bool) (m : Mesh) → Sound lines m → Fit lines (bare m)
fit_of lines m ok =
    record {
      even = ok.even;
      rises = ok.rises;
      within = ok.within;
      last = ok.last;
      most_nodes = ok.most_nodes;
      placed = ok.placed;
      most_entries = ok.most_entries;
      number = ok.number;
      two = λ e i h. (ok.line_kind i h e).1;
    }

-- the `requires` of `find`
pub ready : (o : Settings) (s c : Mesh) (w : ℕ) → Passed o s c w → FindAsks o (bare s) (bare c) w
ready o s c w ok = record { most = ok.most; subject = fit_of false s ok.subject; cutter = fit_of (eqb o.op 5) c ok.cutter; room = omega (arith, ok.room) }
