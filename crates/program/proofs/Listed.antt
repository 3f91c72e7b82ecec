-- What the program prints of an accepted overlay are the pieces of its listing, with their parents. Assumes nothing.
use mathlib.Core.Path.{◌≡◌, refl, sym, ap, ap₂, ◌∙◌}
use mathlib.Core.Bool.{Bool, cond}
use mathlib.Core.List.{List, [], ◌∷◌, ◌++◌, append_assoc, map}
use Prim.Native.Nat.{ℕ, ◌+◌, ◌-◌, ◌*◌}
use native.Mathlib.Omega.{arith}
use lib.ListN.{length, take, drop, length-map}
use lib.Seq.{take-append_seam, drop-append_seam, drop-drop}
use borrow.Author.Tests.{eq-eqb}
use Rattle.lists.specs.Regions.{front}
use Rattle.lists.proofs.Regions.{take_front_of}
use Rattle.cutting.specs.Edition.{ours}
use Rattle.cutting.specs.Outcome.{flat, stops}
use Rattle.cutting.proofs.Runs.{stops_length}
use Rattle.settings.specs.declared.Settings.{Settings}
use Rattle.entry.specs.Mesh.{Mesh}
use Rattle.rules.specs.Mesh.{side_number}
use Rattle.rules.specs.Operations.{Piece, listing}
use Rattle.rules.specs.Overlay.{Lists, Result, answered, answered_with, written, overlay_of}
use Rattle.rules.specs.Demand3.{Accepted}
use Rattle.rules.proofs.Accepts.{accepted}
use Rattle.text.specs.Text.{PieceLine, piece_lines, refused, overlay}
use Rattle.printing.specs.Told.{bits}
use Rattle.program.specs.Answered.{result_told}

-- a piece as it is printed
abbrev pub line_of : Piece → PieceLine
line_of p = record { kind = p.kind; family = p.family; mesh = side_number p.mesh; cell = p.cell; nodes = p.nodes }

-- the pieces that a result's lists hold
abbrev pub lines_of : Result → List PieceLine
lines_of r =
    let l = r.lists in
    piece_lines 0 l.nodes (take r.pieces l.ends) l.kinds l.families l.meshes l.cells

abbrev runs : List Piece → List (List ℕ)
runs ps = map (λ (p : Piece). p.nodes) ps

-- pieces whose corners stand from k on, where the other lists begin with theirs
lines_back : (k : ℕ) (ps : List Piece) (ns rest ks fs ms is : List ℕ) → drop k ns ≡ flat (runs ps) ++ rest
    → piece_lines k ns (stops k (runs ps)) (map (λ (p : Piece). p.kind) ps ++ ks) (map (λ (p : Piece). p.family) ps ++ fs)
    (map (λ (p : Piece). side_number p.mesh) ps ++ ms) (map (λ (p : Piece). p.cell) ps ++ is) ≡ map line_of ps
unfolding piece_lines stops flat
lines_back k [] ns rest ks fs ms is e = refl
lines_back k (p ∷ ps) ns rest ks fs ms is e =
    let own = p.nodes in
    let size : k + length own - k ≡ length own = omega arith in
    let here : drop k ns ≡ own ++ (flat (runs ps) ++ rest) = e ∙ append_assoc own (flat (runs ps)) rest in
    let corners : take (k + length own - k) (drop k ns) ≡ own = ap₂ take size here ∙ take-append_seam own (flat (runs ps) ++ rest) in
    let next : drop (k + length own) ns ≡ flat (runs ps) ++ rest =
    sym (drop-drop (length own) k ns) ∙ ap (drop (length own)) here ∙ drop-append_seam own (flat (runs ps) ++ rest) in
    ap₂ ◌∷◌ (ap (λ (x : List ℕ). record { kind = p.kind; family = p.family; mesh = side_number p.mesh; cell = p.cell; nodes = x }) corners)
    (lines_back (k + length own) ps ns rest ks fs ms is next)

module _ (settings : Settings) (s c : Mesh) (l : Lists) where
  ends_of : take (answered settings s c l).pieces (answered settings s c l).lists.ends ≡ stops 0 (runs (listing settings s c))
  unfolding answered_with written
  ends_of =
      let ps = runs (listing settings s c) in
      take_front_of l.ends (stops 0 ps) _ (stops_length 0 ps ∙ length-map (listing settings s c) (λ (p : Piece). p.nodes))

  answered_lines : lines_of (answered settings s c l) ≡ map line_of (listing settings s c)
  unfolding answered_with written front
  answered_lines =
      let a = (answered settings s c l).lists in
      ap (λ (es : List ℕ). piece_lines 0 a.nodes es a.kinds a.families a.meshes a.cells) ends_of
      ∙ lines_back 0 (listing settings s c) a.nodes _ _ _ _ _ refl

  -- For all settings, meshes and lists: the pieces that an accepted overlay's lists hold, as they are printed, are those of its listing, each with its
  -- parent.
  pub listing_lines : Accepted settings s c l → lines_of (overlay_of settings s c l) ≡ map line_of (listing settings s c)
  listing_lines h = ap lines_of (accepted ours settings s c l h).answer ∙ answered_lines

  -- and so what is told of it, where `nodes` nodes are lent.
  pub listing_told : (nodes : ℕ) → Accepted settings s c l → let r = overlay_of settings s c l in
      result_told nodes r ≡ overlay (bits (take (2 * (nodes + r.added)) r.lists.coords)) r.lists.layers (map line_of (listing settings s c)) r.pieces r.points r.doubled
  unfolding result_told
  listing_told nodes h =
      let r = overlay_of settings s c l in
      let coords = bits (take (2 * (nodes + r.added)) r.lists.coords) in
      ap (λ (b : Bool). cond b (overlay coords r.lists.layers (lines_of r) r.pieces r.points r.doubled) (refused r.code)) (eq-eqb r.code 0 h)
      ∙ ap (λ (ps : List PieceLine). overlay coords r.lists.layers ps r.pieces r.points r.doubled) (listing_lines h)
