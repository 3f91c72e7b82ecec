-- The meetings written behind the coordinates and the nets, where both lists are split. Assumes nothing.
use mathlib.Core.Path.{◌≡◌, refl, sym, ap, ap₂, ◌∙◌}
use mathlib.Core.List.{List, [], ◌++◌, append_assoc}
use Prim.Native.Nat.{ℕ, ◌*◌, ◌-◌, ◌/◌, ◌≤◌}
use native.Mathlib.Omega.{arith}
use lib.ListN.{length, take, drop, length-drop, take-append-drop}
use lib.Seq.{length-take-le, drop-append-le}
use lib.Ieee.{Float}
use Rattle.std.specs.Prelude.{Result, Ok, Err, IfOk}
use Rattle.lists.specs.Gather.{joined}
use Rattle.lists.specs.Regions.{front, put}
use Rattle.refusals.specs.declared.Refusal.{Refusal}
use Rattle.refusals.specs.Numbers.{by_number, refused_with}
use Rattle.grid.specs.Grid.{Grid}
use Rattle.rules.specs.Meetings.{Met, added_by}
use Rattle.rules.specs.Refusals.{of_meeting, first_refusal}
use Rattle.strips.specs.Index.{Indexed}
use Rattle.meetings.specs.declared.Found.{Found}
use Rattle.meetings.specs.InNumbers.{in_numbers, meetings_of}
use Rattle.meetings.specs.MeetingsFound.{MeetingsFound, meetings_found}
use Rattle.meetings.proofs.Reading.{length_in_numbers}
use Rattle.meetings.proofs.Settled.{code_of, found_in, leaves, all_left, code_left}
use Rattle.finding.specs.declared.numbering.NetPlaces.{NetPlaces}
use Rattle.finding.specs.Found.{MeetingsRoom, CutterIndexed, met_in, MetWritten}
use Rattle.finding.proofs.Events.{few_met}
use Rattle.regions.specs.Runs.{run_in}
use Rattle.regions.proofs.Parts.{run_of_front}
use Rattle.lists.proofs.Regions.{length_run}

-- the number of the meetings' refusal is that of their answer by numbers
met_number : (a : Result Found Refusal) → refused_with a ≡ code_of (by_number a)
met_number (Ok f) = refl
met_number (Err e) = refl

-- xs at the front of the first k numbers of l, and the others
front_part : (l xs : List ℕ) (k : ℕ) → k ≤ length l → length xs ≤ k → front (take k l) xs ++ drop k l ≡ front l xs
unfolding front
front_part l xs k h fits =
    append_assoc xs (drop (length xs) (take k l)) (drop k l)
    ∙ ap (λ (ys : List ℕ). xs ++ ys)
    (sym (drop-append-le (length xs) (take k l) (drop k l) (omega (arith, fits, length-take-le k l h))) ∙ ap (drop (length xs)) (take-append-drop k l))

module _ (grid : Grid) (n : NetPlaces) (placed m : ℕ) (oc : List Float) (w : List ℕ) (room : MeetingsRoom n (length oc) (length w) placed m) where
  base_in : n.behind ≤ length w
  base_in = omega (arith, room.met_fits)

  -- the nets are lent
  module _ (nets : List ℕ) (nets-is : nets ≡ take n.behind w) where
    subject_lent : (es : List ℕ) → es ≡ run_in nets n.subject.edges → es ≡ run_in w n.subject.edges
    subject_lent es e = e ∙ run_of_front w nets n.behind n.subject.edges nets-is base_in room.subject

    cutter_lent : (fs : List ℕ) → fs ≡ run_in nets n.cutter.edges → fs ≡ run_in w n.cutter.edges
    cutter_lent fs e = e ∙ run_of_front w nets n.behind n.cutter.edges nets-is base_in room.cutter

    pub few_lent : (es : List ℕ) → es ≡ run_in nets n.subject.edges → length es ≤ 131072
    unfolding run_in
    few_lent es e =
        let r = n.subject.edges in
        let i = room.subject in
        omega (arith, ap length (subject_lent es e), length_run w r.from (r.end - r.from) (omega (arith, i.rises, i.fits, base_in)), room.subject_most)

    -- the index is that of the edges as they are lent
    pub index_lent : CutterIndexed n (take placed oc) w → (cs : List Float) → cs ≡ take placed oc → (fs : List ℕ) → fs ≡ run_in nets n.cutter.edges → Indexed cs fs [] (run_in nets n.index)
    index_lent ix cs cs-is fs e = rw (cs-is, cutter_lent fs e, run_of_front w nets n.behind n.index nets-is base_in ix.index) ix.indexed

  -- the lists are split, and the edges lent
  module _ (cs ps : List Float) (nets rest met behind : List ℕ) (cs-is : cs ≡ take placed oc) (ps-is : ps ≡ drop placed oc) (nets-is : nets ≡ take n.behind w)
      (rest-is : rest ≡ drop n.behind w) (met-is : met ≡ take (5 * m) rest) (behind-is : behind ≡ drop (5 * m) rest) (es fs : List ℕ)
      (es-are : es ≡ run_in nets n.subject.edges) (fs-are : fs ≡ run_in nets n.cutter.edges) where
    abbrev ms : List Met
    ms = met_in grid n placed oc w

    ms_lent : meetings_of grid cs es fs ≡ ms
    ms_lent = ap₂ (λ (x y : List ℕ). meetings_of grid cs x y) (subject_lent nets nets-is es es-are) (cutter_lent nets nets-is fs fs-are)
        ∙ ap (λ (l : List Float). meetings_of grid l (run_in w n.subject.edges) (run_in w n.cutter.edges)) cs-is

    length_rest : length rest ≡ length w - n.behind
    length_rest = ap length rest-is ∙ length-drop n.behind w

    length_met : length met ≡ 5 * m
    length_met = ap length met-is ∙ length-take-le (5 * m) rest (omega (arith, length_rest, room.met_fits))

    length_new : length ps ≡ length oc - placed
    length_new = ap length ps-is ∙ length-drop placed oc

    module _ (a : Result Found Refusal) (ps' : List Float) (met' : List ℕ) (told : leaves (by_number a) ps' met' ≡ meetings_found (meetings_of grid cs es fs) ps met) where
      told_all : leaves (by_number a) ps' met' ≡ meetings_found ms ps met
      told_all = told ∙ ap (λ (x : List Met). meetings_found x ps met) ms_lent

      abbrev code : ℕ
      code = first_refusal (length met / 5) (length ps / 2) 0 0 (joined of_meeting ms)

      code_found : refused_with a ≡ code
      code_found = met_number a ∙ ap (λ (x : MeetingsFound). code_of x.answer) told_all ∙ code_left ms ps met

      pub met_code : refused_with a ≡ first_refusal m (length oc / 2 - placed / 2) 0 0 (joined of_meeting ms)
      met_code =
          let limit : length met / 5 ≡ m = omega (arith, length_met) in
          let points : length ps / 2 ≡ length oc / 2 - placed / 2 = omega (arith, length_new, room.placed_even, room.placed_fits) in
          code_found ∙ ap₂ (λ (k i : ℕ). first_refusal k i 0 0 (joined of_meeting ms)) limit points

      written : (f : Found) → a ≡ Ok f → MetWritten grid n placed oc w (cs ++ ps') (nets ++ (met' ++ behind)) f
      unfolding put
      written f i =
          let z : refused_with a ≡ 0 = ap refused_with i in
          let all = told_all ∙ all_left ms ps met (sym code_found ∙ z) in
          let few : length ms ≤ m = few_met ms m (length oc / 2 - placed / 2) 0 0 (sym met_code ∙ z) in
          let numbers : met' ++ behind ≡ front rest (in_numbers ms) =
          ap₂ (λ (x y : List ℕ). x ++ y) (ap (λ (x : MeetingsFound). x.met) all ∙ ap (λ (l : List ℕ). front l (in_numbers ms)) met-is) behind-is
          ∙ front_part rest (in_numbers ms) (5 * m) (omega (arith, length_rest, room.met_fits)) (omega (arith, length_in_numbers ms, few)) in
          record {
            found = ap (found_in f) (sym (ap by_number i) ∙ ap (λ (x : MeetingsFound). x.answer) all);
            coords = ap₂ (λ (x y : List Float). x ++ y) cs-is (ap (λ (x : MeetingsFound). x.points) all ∙ ap (λ (l : List Float). front l (added_by ms)) ps-is);
            work = ap₂ (λ (x y : List ℕ). x ++ y) nets-is (numbers ∙ ap (λ (l : List ℕ). front l (in_numbers ms)) rest-is);
          }

      pub met_written : IfOk a (MetWritten grid n placed oc w (cs ++ ps') (nets ++ (met' ++ behind)))
      met_written = go a written
        where
          go : (b : Result Found Refusal) → ((f : Found) → b ≡ Ok f → MetWritten grid n placed oc w (cs ++ ps') (nets ++ (met' ++ behind)) f)
              → IfOk b (MetWritten grid n placed oc w (cs ++ ps') (nets ++ (met' ++ behind)))
          go (Ok f) h = h f refl
          go (Err e) h = tt
