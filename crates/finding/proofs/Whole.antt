-- `edges`: the working list from call to call, and what its regions hold in the end. Assumes nothing.
use mathlib.Core.Path.{◌≡◌, refl, sym, ap, ap₂, ◌∙◌}
use mathlib.Core.Bool.{Bool, true, false, cond}
use mathlib.Core.List.{List, [], ◌++◌, map}
use Prim.Native.Nat.{ℕ, ◌+◌, ◌*◌, ◌/◌, ◌≤◌}
use native.Mathlib.Omega.{arith}
use lib.ListN.{length, get_or, take, drop, length-append, length-map, length-replicate, take-append-drop}
use lib.Seq.{length-take-le}
use Rattle.lists.specs.Regions.{run, front, put, copied, zeros}
use Rattle.lists.proofs.Regions.{length_front, length_put, run_before, copied_fits}
use Rattle.cutting.specs.Edges.{Edge}
use Rattle.cutting.specs.Lent.{flat_edges, pairs}
use Rattle.cutting.proofs.Pairs.{pairs_length, ends_length}
use Rattle.entry.specs.Mesh.{Mesh, mesh, node_count, Rising}
use Rattle.rules.specs.Snap.{weld}
use Rattle.rules.specs.Neighbours.{compute_descending, line_edges, subject_net, cutter_net}
use Rattle.snap.proofs.Welds.{weld_lists, length_weld}
use Rattle.neighbours.proofs.Edges.{ends_pairs, few_edges}
use Rattle.regions.specs.declared.MeshRuns.{MeshRuns}
use Rattle.regions.specs.Runs.{run_in}
use Rattle.regions.proofs.Parts.{run_of_front, run_kept, run_long}
use Rattle.finding.specs.Nets.{Fit, NetRoom, cutter_entries, copied_at, subject_at, cutter_at, index_at, met_at, chain_room}
use Rattle.finding.specs.Nets.{between, with_edges, subject_runs, cutter_runs, edges_of, edged, edges_from, EdgesAsk}
use Rattle.finding.proofs.Cells.{cells_in, cells_lists, cells_renumbered, prior_two, line_pairs}
use Rattle.finding.proofs.Layers as layers
use Rattle.finding.proofs.Welded.{numbers_read}
use Rattle.finding.proofs.Joined.{put_left, put_right, zeros_apart}

-- ends of a mesh that fits
pub rising : (lines : Bool) (m : Mesh) → Fit lines m → Rising m.ends (length m.nodes)
rising lines m ok i h = (omega (arith, ok.rises i h), ok.within i h)

module _ (lines : Bool) (s c : Mesh) where
  abbrev entries : List ℕ
  entries = cutter_entries s c

  abbrev subjects : List Edge
  subjects = (subject_net s).edges

  abbrev cutters : List Edge
  cutters = (cutter_net lines s c).edges

  length_entries : length entries ≡ length c.nodes
  length_entries = length-map c.nodes (λ n. get_or (weld s c) n 0)

  -- ---- the cells, read from lists of entries, and the edges

  pub subject_cells_lem : (subject_net s).cells ≡ cells_in s.nodes s.ends
  unfolding subject_net
  subject_cells_lem = cells_lists s

  pub cutter_cells_lem : (cutter_net lines s c).cells ≡ cells_in entries c.ends
  unfolding cutter_net
  cutter_cells_lem = ap (map (map (λ n. get_or (weld s c) n 0))) (cells_lists c) ∙ sym (cells_renumbered (λ n. get_or (weld s c) n 0) c.nodes c.ends)

  subjects_are : subjects ≡ compute_descending (cells_in s.nodes s.ends)
  unfolding subject_net
  subjects_are = ap compute_descending (cells_lists s)

  cutters_cells : lines ≡ false → cutters ≡ compute_descending (cells_in entries c.ends)
  unfolding cutter_net
  cutters_cells e =
      let cells : List (List ℕ) = (cutter_net lines s c).cells in
      ap (λ (t : Bool). cond t (line_edges cells) (compute_descending cells)) e ∙ ap compute_descending cutter_cells_lem

  module _ (fs : Fit false s) (fc : Fit lines c) where
    few_subjects : length subjects ≤ length s.nodes
    few_subjects = omega (arith, ap length subjects_are, few_edges s.nodes s.ends (rising false s fs))

    -- lines have two entries each
    line_count : lines ≡ true → length entries ≡ 2 * length c.ends
    line_count e = omega (arith, length_entries, prior_two entries c.ends fc.rises (fc.two e) (length c.ends) (omega arith), fc.last)

    cutters_lines : lines ≡ true → cutters ≡ pairs entries
    unfolding cutter_net
    cutters_lines e =
        let cells : List (List ℕ) = (cutter_net lines s c).cells in
        ap (λ (t : Bool). cond t (line_edges cells) (compute_descending cells)) e ∙ ap line_edges cutter_cells_lem ∙ line_pairs entries c.ends fc.rises (fc.two e) (line_count e)

    up : Rising c.ends (length entries)
    up i h = (omega (arith, fc.rises i h), omega (arith, fc.within i h, length_entries))

    few_cutters : length cutters ≤ length c.nodes
    few_cutters = go lines refl
      where
        go : (t : Bool) → lines ≡ t → length cutters ≤ length c.nodes
        go true e = omega (arith, ap length (cutters_lines e), pairs_length entries, length_entries)
        go false e = omega (arith, ap length (cutters_cells e), few_edges entries c.ends up, length_entries)

    -- ---- from call to call

    module _ (w₀ : List ℕ) (room : NetRoom 0 s c (length w₀)) where
      abbrev numbers : List ℕ
      numbers = front w₀ (weld s c ++ zeros (node_count s))

      length_numbers : length numbers ≡ length w₀
      length_numbers =
          length_front w₀ (weld s c ++ zeros (node_count s))
          (omega (arith, room, length-append (weld s c) (zeros (node_count s)), length_weld s c, length-replicate {A = ℕ} (node_count s) 0))

      -- what is written behind the subject's edges
      abbrev behind : List ℕ
      behind = cond lines [] (flat_edges cutters)

      few_behind : length behind ≤ 2 * length c.nodes
      few_behind = go lines
        where
          go : (t : Bool) → length (cond t [] (flat_edges cutters)) ≤ 2 * length c.nodes
          go true = omega arith
          go false = omega (arith, ends_length cutters, few_cutters)

      h₁ : node_count c + length entries ≤ copied_at s c
      h₁ = omega (arith, length_entries)

      h₃ : subject_at s c + length (flat_edges subjects) ≤ cutter_at s c
      h₃ = omega (arith, ends_length subjects, few_subjects)

      h₄ : (xs : List ℕ) → length xs ≤ 2 * length c.nodes → cutter_at s c + length xs ≤ length numbers
      h₄ xs h = omega (arith, h, room, length_numbers)

      abbrev two : List ℕ
      two = layers.two numbers entries s.nodes (flat_edges subjects) behind (node_count c) (copied_at s c) (subject_at s c) (cutter_at s c)

      abbrev three : List ℕ
      three = layers.three numbers entries s.nodes (flat_edges subjects) behind (node_count c) (copied_at s c) (subject_at s c) (cutter_at s c)

      -- where the edges had their chains
      abbrev clear : List ℕ
      clear = zeros (chain_room s c)

      length_clear : length clear ≡ chain_room s c
      length_clear = length-replicate {A = ℕ} (chain_room s c) 0

      length_three : length three ≡ length w₀
      length_three = layers.length_three numbers entries s.nodes (flat_edges subjects) behind (node_count c) (copied_at s c) (subject_at s c) (cutter_at s c) h₁ (omega arith)
          h₃ (h₄ behind few_behind) ∙ length_numbers

      -- the entries stand in the nets, before the edges and their chains
      pub record Lent (nets rest : List ℕ) : Type 0 where
        pub long : length nets ≡ met_at s c
        pub subject : run_in nets (between (copied_at s c) (subject_at s c)) ≡ s.nodes
        pub cutter : run_in nets (between (node_count c) (copied_at s c)) ≡ entries
        pub all : nets ++ rest ≡ two

      module _ (w₁ w₂ w₃ : List ℕ) (d₁ : w₁ ≡ front w₀ (weld (mesh s.coords s.layers s.nodes [] [] []) (mesh c.coords c.layers c.nodes [] [] []) ++ zeros (length s.coords / 2)))
          (d₂ : w₂ ≡ put w₁ (node_count c) (map (λ n. get_or w₁ n 0) c.nodes)) (d₃ : w₃ ≡ copied w₂ (copied_at s c) s.nodes) where
        one_is : w₁ ≡ numbers
        one_is = d₁ ∙ ap (λ (l : List ℕ). front w₀ (l ++ zeros (node_count s))) (sym (weld_lists s c))

        two_is : w₂ ≡ put numbers (node_count c) entries
        two_is =
            d₂ ∙ ap (λ (w : List ℕ). put w (node_count c) (map (λ n. get_or w n 0) c.nodes)) one_is
            ∙ ap (put numbers (node_count c)) (numbers_read s c w₀ (zeros (node_count s)) c.nodes fc.number)

        three_is : w₃ ≡ two
        three_is =
            let len = layers.length_one numbers entries s.nodes (flat_edges subjects) behind (node_count c) (copied_at s c) (subject_at s c) (cutter_at s c) h₁ (omega arith)
            h₃ (h₄ behind few_behind) in
            d₃ ∙ ap (λ (w : List ℕ). copied w (copied_at s c) s.nodes) two_is ∙ copied_fits (put numbers (node_count c) entries) (copied_at s c) s.nodes
            (omega (arith, len, room, length_numbers))

        length_two : length w₃ ≡ length w₀
        length_two =
            ap length three_is
            ∙ layers.length_two numbers entries s.nodes (flat_edges subjects) behind (node_count c) (copied_at s c) (subject_at s c) (cutter_at s c) h₁ (omega arith) h₃ (h₄ behind few_behind)
            ∙ length_numbers

        low : met_at s c ≤ length w₃
        low = omega (arith, room, length_two)

        -- the nets are lent, before their chains
        module _ (nets rest : List ℕ) (nets-is : nets ≡ take (met_at s c) w₃) (rest-is : rest ≡ drop (met_at s c) w₃) where
          long : length nets ≡ met_at s c
          long = ap length nets-is ∙ length-take-le (met_at s c) w₃ low

          subject_read : run_in nets (between (copied_at s c) (subject_at s c)) ≡ s.nodes
          subject_read =
              run_of_front w₃ nets (met_at s c) (between (copied_at s c) (subject_at s c)) nets-is low (record { rises = omega arith; fits = omega arith })
              ∙ run_long w₃ (copied_at s c) (length s.nodes) ∙ ap (λ (w : List ℕ). run w (copied_at s c) (length s.nodes)) three_is
              ∙ layers.second_two numbers entries s.nodes (flat_edges subjects) behind (node_count c) (copied_at s c) (subject_at s c) (cutter_at s c) h₁ (omega arith) h₃
              (h₄ behind few_behind)

          cutter_read : run_in nets (between (node_count c) (copied_at s c)) ≡ entries
          cutter_read =
              run_of_front w₃ nets (met_at s c) (between (node_count c) (copied_at s c)) nets-is low (record { rises = omega arith; fits = omega arith })
              ∙ run_long w₃ (node_count c) (length c.nodes) ∙ ap₂ (λ (w : List ℕ) (n : ℕ). run w (node_count c) n) three_is (sym length_entries)
              ∙ layers.first_two numbers entries s.nodes (flat_edges subjects) behind (node_count c) (copied_at s c) (subject_at s c) (cutter_at s c) h₁ (omega arith) h₃
              (h₄ behind few_behind)

          pub entries_lent : Lent nets rest
          entries_lent =
              record {
                long = long;
                subject = subject_read;
                cutter = cutter_read;
                all = ap₂ (λ (u v : List ℕ). u ++ v) nets-is rest-is ∙ take-append-drop (met_at s c) w₃ ∙ three_is;
              }

      module _ (nets rest : List ℕ) (l : Lent nets rest) where
        subjects_found : edges_from nets s.ends (between (copied_at s c) (subject_at s c)) ≡ subjects
        subjects_found = ap (λ (ns : List ℕ). compute_descending (cells_in ns s.ends)) l.subject ∙ sym subjects_are

        -- what `mesh_edges` asks
        pub subject_asks : (h n : ℕ) → h ≡ node_count s + node_count c + 1 → n ≡ length s.nodes + length c.nodes
            → EdgesAsk nets s.ends (between (copied_at s c) (subject_at s c)) (subject_at s c) h n
        subject_asks h n a b =
            let m = ap length l.subject in
            record {
              lies = record { rises = omega arith; fits = omega arith };
              room = omega (arith, l.long, m);
              rising = rw l.subject (rising false s fs);
              most = omega (arith, m, fs.most_entries);
              some = omega (arith, a);
              links = omega (arith, b, m);
            }

        -- the subject's edges are written
        module _ (g₁ : MeshRuns) (nets₁ heads nexts heads₁ nexts₁ : List ℕ)
            (d₄ : (g₁ ≡ with_edges (between (copied_at s c) (subject_at s c)) (subject_at s c) (edges_from nets s.ends (between (copied_at s c) (subject_at s c))))
            × (nets₁ ≡ put nets (subject_at s c) (flat_edges (edges_from nets s.ends (between (copied_at s c) (subject_at s c)))))
            × (heads₁ ≡ zeros (length heads)) × (nexts₁ ≡ zeros (length nexts))) where
          nets₁_is : nets₁ ≡ put nets (subject_at s c) (flat_edges subjects)
          nets₁_is = d₄.1 ∙ ap (λ (es : List Edge). put nets (subject_at s c) (flat_edges es)) subjects_found

          long₁ : length nets₁ ≡ met_at s c
          long₁ = ap length nets₁_is ∙ length_put nets (subject_at s c) (omega (arith, l.long)) (flat_edges subjects) (omega (arith, h₃, l.long)) ∙ l.long

          cutter_kept : run_in nets₁ (between (node_count c) (copied_at s c)) ≡ entries
          cutter_kept =
              ap (λ (w : List ℕ). run_in w (between (node_count c) (copied_at s c))) nets₁_is
              ∙ run_kept nets (flat_edges subjects) (subject_at s c) (omega (arith, l.long)) (between (node_count c) (copied_at s c)) (record { rises = omega arith; fits = omega arith })
              ∙ l.cutter

          -- what `cutter_edges` asks
          pub cutter_asks : (h n : ℕ) → h ≡ node_count s + node_count c + 1 → n ≡ length s.nodes + length c.nodes
              → EdgesAsk nets₁ c.ends (between (node_count c) (copied_at s c)) (cutter_at s c) h n
          cutter_asks h n a b =
              let m : length (run_in nets₁ (between (node_count c) (copied_at s c))) ≡ length c.nodes = ap length cutter_kept ∙ length_entries in
              record {
                lies = record { rises = omega arith; fits = omega arith };
                room = omega (arith, long₁, m);
                rising = rw cutter_kept up;
                most = omega (arith, m, fc.most_entries);
                some = omega (arith, a);
                links = omega (arith, b, m);
              }

          cutters_found : lines ≡ false → edges_from nets₁ c.ends (between (node_count c) (copied_at s c)) ≡ cutters
          cutters_found e = ap (λ (ns : List ℕ). compute_descending (cells_in ns c.ends)) cutter_kept ∙ sym (cutters_cells e)

          -- both are
          module _ (g₂ : MeshRuns) (nets₂ heads₂ nexts₂ : List ℕ)
              (d₅ : (g₂ ≡ cond lines (record { edges = between (node_count c) (copied_at s c); entries = between (node_count c) (copied_at s c) })
              (with_edges (between (node_count c) (copied_at s c)) (cutter_at s c) (edges_from nets₁ c.ends (between (node_count c) (copied_at s c)))))
              × (nets₂ ≡ put nets₁ (cutter_at s c) (cond lines [] (flat_edges (edges_from nets₁ c.ends (between (node_count c) (copied_at s c))))))
              × (heads₂ ≡ zeros (length heads₁)) × (nexts₂ ≡ zeros (length nexts₁))) where
            runs_are : g₂ ≡ cutter_runs lines s c
            runs_are = d₅.0 ∙ go lines refl
              where
                go : (t : Bool) → lines ≡ t
                    → cond t (record { edges = between (node_count c) (copied_at s c); entries = between (node_count c) (copied_at s c) })
                    (with_edges (between (node_count c) (copied_at s c)) (cutter_at s c) (edges_from nets₁ c.ends (between (node_count c) (copied_at s c))))
                    ≡ with_edges (between (node_count c) (copied_at s c)) (cond t (node_count c) (cutter_at s c)) cutters
                go true e =
                    let n : copied_at s c ≡ node_count c + 2 * length cutters = omega (arith, ap length (cutters_lines e), pairs_length entries, length_entries, line_count e) in
                    ap (λ (k : ℕ). record { edges = between (node_count c) k; entries = between (node_count c) (copied_at s c) }) n
                go false e = ap (with_edges (between (node_count c) (copied_at s c)) (cutter_at s c)) (cutters_found e)

            behind_are : cond lines [] (flat_edges (edges_from nets₁ c.ends (between (node_count c) (copied_at s c)))) ≡ behind
            behind_are = go lines refl
              where
                go : (t : Bool) → lines ≡ t → cond t [] (flat_edges (edges_from nets₁ c.ends (between (node_count c) (copied_at s c)))) ≡ cond t [] (flat_edges cutters)
                go true e = refl
                go false e = ap flat_edges (cutters_found e)

            nets₂_is : nets₂ ≡ put (put nets (subject_at s c) (flat_edges subjects)) (cutter_at s c) behind
            nets₂_is = d₅.1 ∙ ap₂ (λ (w xs : List ℕ). put w (cutter_at s c) xs) nets₁_is behind_are

            long₂ : length nets₂ ≡ met_at s c
            long₂ =
                ap length nets₂_is ∙ ap (λ (w : List ℕ). length (put w (cutter_at s c) behind)) (sym nets₁_is)
                ∙ length_put nets₁ (cutter_at s c) (omega (arith, long₁)) behind (omega (arith, few_behind, long₁)) ∙ long₁

            -- they stand before the chains as in the whole list
            whole₂ : nets₂ ++ rest ≡ put (put two (subject_at s c) (flat_edges subjects)) (cutter_at s c) behind
            whole₂ =
                let one : put two (subject_at s c) (flat_edges subjects) ≡ nets₁ ++ rest =
                ap (λ (w : List ℕ). put w (subject_at s c) (flat_edges subjects)) (sym l.all)
                ∙ put_left nets rest (subject_at s c) (flat_edges subjects) (omega (arith, h₃, l.long)) ∙ ap (λ (u : List ℕ). u ++ rest) (sym nets₁_is) in
                sym (ap (λ (w : List ℕ). put w (cutter_at s c) behind) one ∙ put_left nets₁ rest (cutter_at s c) behind (omega (arith, few_behind, long₁))
                ∙ ap (λ (w : List ℕ). put w (cutter_at s c) behind ++ rest) nets₁_is ∙ ap (λ (u : List ℕ). u ++ rest) (sym nets₂_is))

            pub edges_end : (rest₂ : List ℕ) → (h n : ℕ) → length heads ≡ h → length nexts ≡ n → h ≡ node_count s + node_count c + 1 → n ≡ length s.nodes + length c.nodes
                → rest₂ ≡ drop n (drop h rest)
                → (record { subject = g₁; cutter = g₂; index = between (index_at s c) (met_at s c); behind = met_at s c } ≡ edges_of lines s c)
                × (nets₂ ++ (heads₂ ++ (nexts₂ ++ rest₂)) ≡ edged lines s c w₀)
            unfolding edges_of edged
            edges_end rest₂ h n lh ln he ne r₂ =
                let hs : heads₂ ≡ zeros h = d₅.2 ∙ ap zeros (ap length d₄.2 ∙ length-replicate (length heads) 0 ∙ lh) in
                let ns : nexts₂ ≡ zeros n = d₅.3 ∙ ap zeros (ap length d₄.3 ∙ length-replicate (length nexts) 0 ∙ ln) in
                let size : h + n ≡ chain_room s c = omega (arith, he, ne) in
                let g₁_is : g₁ ≡ subject_runs s c = d₄.0 ∙ ap (with_edges (between (copied_at s c) (subject_at s c)) (subject_at s c)) subjects_found in (
                  (λ i. record { subject = g₁_is i; cutter = runs_are i; index = between (index_at s c) (met_at s c); behind = met_at s c }),
                  ap₂ (λ (u v : List ℕ). nets₂ ++ (u ++ v)) hs (ap₂ (λ (u v : List ℕ). u ++ v) ns r₂)
                      ∙ ap (λ (v : List ℕ). nets₂ ++ v) (zeros_apart rest h n) ∙ sym (put_right nets₂ rest (met_at s c) (zeros (h + n)) long₂)
                      ∙ ap₂ (λ (w : List ℕ) (k : ℕ). put w (met_at s c) (zeros k)) whole₂ size,
                )

      -- ---- what the regions hold

      abbrev held : List ℕ
      held = edged lines s c w₀

      -- without the zeros
      abbrev four : List ℕ
      four = layers.four numbers entries s.nodes (flat_edges subjects) behind (node_count c) (copied_at s c) (subject_at s c) (cutter_at s c)

      length_four : length four ≡ length w₀
      length_four = layers.length_four numbers entries s.nodes (flat_edges subjects) behind (node_count c) (copied_at s c) (subject_at s c) (cutter_at s c) h₁ (omega arith)
          h₃ (h₄ behind few_behind) ∙ length_numbers

      pub length_edged : length held ≡ length w₀
      unfolding edged
      length_edged = length_put four (met_at s c) (omega (arith, room, length_four)) clear (omega (arith, room, length_four, length_clear)) ∙ length_four

      before : (a n : ℕ) → a + n ≤ met_at s c → run held a n ≡ run four a n
      unfolding edged
      before a n h = run_before four (met_at s c) (omega (arith, room, length_four)) clear a n h

      entries_whole : run held (node_count c) (length entries) ≡ entries
      entries_whole = before (node_count c) (length entries) (omega (arith, length_entries)) ∙ layers.first_four numbers entries s.nodes (flat_edges subjects) behind
          (node_count c) (copied_at s c) (subject_at s c) (cutter_at s c) h₁ (omega arith) h₃ (h₄ behind few_behind)

      pub entries_edged : run held (node_count c) (length c.nodes) ≡ entries
      entries_edged = ap (run held (node_count c)) (sym length_entries) ∙ entries_whole

      pub copied_edged : run held (copied_at s c) (length s.nodes) ≡ s.nodes
      copied_edged = before (copied_at s c) (length s.nodes) (omega arith) ∙ layers.second_four numbers entries s.nodes (flat_edges subjects) behind
          (node_count c) (copied_at s c) (subject_at s c) (cutter_at s c) h₁ (omega arith) h₃ (h₄ behind few_behind)

      pub subjects_edged : run held (subject_at s c) (2 * length subjects) ≡ flat_edges subjects
      subjects_edged =
          ap (run held (subject_at s c)) (sym (ends_length subjects)) ∙ before (subject_at s c) (length (flat_edges subjects)) (omega (arith, ends_length subjects, few_subjects))
          ∙ layers.third_four numbers entries s.nodes (flat_edges subjects) behind (node_count c) (copied_at s c) (subject_at s c) (cutter_at s c) h₁ (omega arith) h₃ (h₄ behind few_behind)

      behind_held : run held (cutter_at s c) (length behind) ≡ behind
      behind_held = before (cutter_at s c) (length behind) (omega (arith, few_behind)) ∙ layers.fourth_four numbers entries s.nodes (flat_edges subjects) behind
          (node_count c) (copied_at s c) (subject_at s c) (cutter_at s c) h₁ (omega arith) h₃ (h₄ behind few_behind)

      pub cutters_edged : run held (cond lines (node_count c) (cutter_at s c)) (2 * length cutters) ≡ flat_edges cutters
      cutters_edged = go lines refl
        where
          go : (t : Bool) → lines ≡ t → run held (cond t (node_count c) (cutter_at s c)) (2 * length cutters) ≡ flat_edges cutters
          go true e =
              let as_pairs : flat_edges cutters ≡ entries = ap flat_edges (cutters_lines e) ∙ ends_pairs entries (length c.ends) (line_count e) in
              let n : 2 * length cutters ≡ length entries = omega (arith, ends_length cutters, ap length as_pairs) in
              ap (run held (node_count c)) n ∙ entries_whole ∙ sym as_pairs
          go false e =
              let is : behind ≡ flat_edges cutters = ap (λ (t : Bool). cond t [] (flat_edges cutters)) e in
              let n : 2 * length cutters ≡ length behind = omega (arith, ends_length cutters, ap length is) in
              ap (run held (cutter_at s c)) n ∙ behind_held ∙ is

      pub subjects_before : (subject_at s c + 2 * length subjects ≤ index_at s c) × (length subjects ≤ 65536) × (length subjects ≤ length s.nodes)
      subjects_before = (omega (arith, few_subjects), omega (arith, few_subjects, fs.most_entries), few_subjects)

      pub cutters_before : (cond lines (node_count c) (cutter_at s c) + 2 * length cutters ≤ index_at s c) × (length cutters ≤ 65536) × (length cutters ≤ length c.nodes)
      cutters_before = (go lines, omega (arith, few_cutters, fc.most_entries), few_cutters)
        where
          go : (t : Bool) → cond t (node_count c) (cutter_at s c) + 2 * length cutters ≤ index_at s c
          go true = omega (arith, few_cutters)
          go false = omega (arith, few_cutters)
