-- The links written behind the meetings, where the working list is split in two. Assumes nothing.
use mathlib.Core.Path.{◌≡◌, ap, ap₂, ◌∙◌}
use mathlib.Core.List.{List, ◌++◌}
use Prim.Native.Nat.{ℕ, ◌+◌, ◌*◌, ◌/◌, ◌≤◌, ◌<◌}
use native.Mathlib.Omega.{arith}
use lib.ListN.{length, take, drop, length-drop}
use lib.Seq.{length-take-le}
use Rattle.lists.specs.Regions.{run, put}
use Rattle.lists.proofs.Regions.{length_run, part_back}
use Rattle.cutting.specs.Lent.{pairs}
use Rattle.regions.specs.declared.Run.{Run}
use Rattle.regions.specs.Runs.{Within, run_in}
use Rattle.regions.proofs.Parts.{run_of_front, run_long}
use Rattle.edge_nodes.specs.Links.{links_of}
use Rattle.finding.specs.declared.numbering.NetPlaces.{NetPlaces}
use Rattle.finding.specs.Nets.{between}
use Rattle.finding.specs.Found.{LinkRoom, linked_by}

-- what ends before m ends before a later place
pub within_more : (r : Run) (m n : ℕ) → Within r m → m ≤ n → Within r n
within_more r m n i h = record { rises = i.rises; fits = omega (arith, i.fits) }

module _ (w : List ℕ) (n : NetPlaces) (met h : ℕ) (room : LinkRoom n met h (length w)) (nets rest : List ℕ) (nets-are : nets ≡ take (n.behind + 5 * met) w)
    (rest-is : rest ≡ drop (n.behind + 5 * met) w) (ms : List ℕ) (ms-are : ms ≡ run_in nets (between n.behind (n.behind + 5 * met))) where
  abbrev end : ℕ
  end = n.behind + 5 * met

  fits : end ≤ length w
  fits = omega (arith, room.links_fit)

  met_is : ms ≡ run w n.behind (5 * met)
  met_is =
      ms-are ∙ run_of_front w nets end (between n.behind (n.behind + 5 * met)) nets-are fits (record { rises = omega arith; fits = omega arith }) ∙ run_long w n.behind (5 * met)

  long : length ms ≡ 5 * met
  long = ap length met_is ∙ length_run w n.behind (5 * met) fits

  -- what `link_meetings` asks
  pub links_asked : (links : List ℕ) → links ≡ take (2 * (h + met)) rest → (length links ≡ 2 * h + 2 * (length ms / 5)) × (0 < h) × (length ms ≤ 327680)
  links_asked links is = (
    omega (arith, ap length is, length-take-le (2 * (h + met)) rest (omega (arith, ap length rest-is, length-drop end w, room.links_fit)), long),
    room.some,
    omega (arith, long, room.few),
  )

  pub links_put : (es fs links behind : List ℕ) → es ≡ run_in nets n.subject.edges → fs ≡ run_in nets n.cutter.edges → length links ≡ 2 * (h + met)
      → links ≡ links_of h (pairs es) (pairs fs) ms → behind ≡ drop (2 * (h + met)) rest → nets ++ (links ++ behind) ≡ linked_by n met h w
  unfolding linked_by
  links_put es fs links behind es-are fs-are size is behind-is =
      let s = es-are ∙ run_of_front w nets end n.subject.edges nets-are fits (within_more n.subject.edges n.behind end room.subject (omega arith)) in
      let c = fs-are ∙ run_of_front w nets end n.cutter.edges nets-are fits (within_more n.cutter.edges n.behind end room.cutter (omega arith)) in
      ap (λ (l : List ℕ). nets ++ (links ++ l)) behind-is ∙ ap₂ (λ (x y : List ℕ). x ++ (links ++ drop (2 * (h + met)) y)) nets-are rest-is
      ∙ part_back w links end (2 * (h + met)) size
      ∙ ap (put w end) (is ∙ ap₂ (λ (x y : List ℕ). links_of h (pairs x) (pairs y) ms) s c ∙ ap (links_of h (pairs (run_in w n.subject.edges)) (pairs (run_in w n.cutter.edges))) met_is)
