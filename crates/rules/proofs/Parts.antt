-- What an answer lists: the pieces that its operation keeps. So each piece of Imprint is in exactly one of Intersection and Difference. Assumes nothing.
use mathlib.Core.Logic.{◌⊎◌, inl, inr}
use mathlib.Core.Path.{◌≡◌, refl, sym, ap, ◌∙◌, subst}
use mathlib.Core.Bool.{Bool, true, false, cond, not, true≢false, false≢true}
use mathlib.Core.List.Memᴰ
use mathlib.Core.List.{[], ◌++◌, Memᴰ}
use Prim.Native.Nat.{ℕ, ◌<◌}
use lib.ListN.{length}
use Rattle.lists.specs.Gather.{gathered, each}
use Rattle.grid.specs.Grid.{Grid}
use Rattle.settings.specs.declared.Settings.{Settings}
use Rattle.entry.specs.Mesh.{Mesh}
use Rattle.rules.specs.Mesh.{Side, the_subject, the_cutter}
use Rattle.rules.specs.Meetings.{Scene, net_of, scene_of}
use Rattle.rules.specs.Operations.{cuts, keeps, scene_for, Piece, pieces_of, piece_at, piece_with, lies_inside, kept, kept_with, over_cells, listing, listing_with}
use Rattle.rules.specs.Demand3.{Kept, Listed, SamePiece, Unlisted, set_on}
use Rattle.lists.proofs.Gather.{gathered_at, in_gathered, each_at, in_each, passing_at, in_passing, mem_at}
use Rattle.lists.proofs.Gather.{in_list}

-- ---- one mesh's part of a listing

module _ (sc : Scene) (op : ℕ) (w : Side) where
  piece_at_kept : (i j : ℕ) → cuts op w ≡ true → i < length (net_of sc w).cells → j < length (pieces_of sc w i)
      → keeps op w (lies_inside sc w (piece_at sc w i j)) ≡ true → Kept sc op (piece_at sc w i j)
  unfolding piece_with
  piece_at_kept i j c h k e = record { cut = c; cell = h; place = k; same = refl; passes = e }

  over_kept : (t : Bool) → cuts op w ≡ t → (p : Piece) → Memᴰ p (cond t (gathered (length (net_of sc w).cells) (kept sc w op)) []) → Kept sc op p
  unfolding kept_with
  over_kept false c p h = absurd (Memᴰ.not-nil h)
  over_kept true c p h =
      let at = gathered_at (length (net_of sc w).cells) (kept sc w op) p h in
      let i = at.0 in
      let pass = passing_at (λ q. keeps op w (lies_inside sc w q)) (each (length (pieces_of sc w i)) (piece_at sc w i)) p at.2 in
      let e = each_at (length (pieces_of sc w i)) (piece_at sc w i) p pass.0 in
      rw e.2 (piece_at_kept i e.0 c at.1 e.1 (ap (λ (q : Piece). keeps op w (lies_inside sc w q)) (sym e.2) ∙ pass.1))

  kept_over : (t : Bool) → t ≡ true → (i j : ℕ) → i < length (net_of sc w).cells → j < length (pieces_of sc w i)
      → keeps op w (lies_inside sc w (piece_at sc w i j)) ≡ true → Memᴰ (piece_at sc w i j) (cond t (gathered (length (net_of sc w).cells) (kept sc w op)) [])
  unfolding kept_with
  kept_over false c i j h k e = absurd (false≢true c)
  kept_over true c i j h k e =
      in_gathered (length (net_of sc w).cells) (kept sc w op) (piece_at sc w i j) i h
      (in_passing (λ q. keeps op w (lies_inside sc w q)) (each (length (pieces_of sc w i)) (piece_at sc w i)) (piece_at sc w i j)
      (in_each (length (pieces_of sc w i)) (piece_at sc w i) j k) e)

-- ---- listed is kept, and kept is listed

module _ (o : Settings) (s c : Mesh) where
  abbrev sc : Scene
  sc = scene_for o s c

  abbrev Among : Piece → Type 0
  Among p = Memᴰ p (listing o s c)

  pub among : (p : Piece) → Listed p o s c → Memᴰ p (listing o s c)
  among p h = subst (λ (q : Piece). Among q) (h.1.is p) (in_list (listing o s c) h.0 h.1.below p)

  pub listed : (p : Piece) → Memᴰ p (listing o s c) → Listed p o s c
  listed p h = let r = mem_at (listing o s c) p h in (r.0, record { below = r.1; is = r.2 })

  among_kept : (p : Piece) → Among p → Kept sc o.op p
  unfolding listing_with
  among_kept p h = go (Memᴰ.append_cases (over_cells o.op sc the_subject (kept sc the_subject o.op)) h)
    where
      go : Memᴰ p (over_cells o.op sc the_subject (kept sc the_subject o.op)) ⊎ Memᴰ p (over_cells o.op sc the_cutter (kept sc the_cutter o.op)) → Kept sc o.op p
      go (inl k) = over_kept sc o.op the_subject (cuts o.op the_subject) refl p k
      go (inr k) = over_kept sc o.op the_cutter (cuts o.op the_cutter) refl p k

  kept_among : (p : Piece) → Kept sc o.op p → Among p
  unfolding listing_with
  kept_among p k = Memᴰ.cast k.same (go p.mesh k.cut (kept_over sc o.op p.mesh (cuts o.op p.mesh) k.cut p.cell p.place k.cell k.place
      (ap (λ (q : Piece). keeps o.op p.mesh (lies_inside sc p.mesh q)) (sym k.same) ∙ k.passes)))
    where
      go : (w : Side) → cuts o.op w ≡ true → Memᴰ (piece_at sc p.mesh p.cell p.place) (over_cells o.op sc w (kept sc w o.op))
          → Memᴰ (piece_at sc p.mesh p.cell p.place) (over_cells o.op sc the_subject (kept sc the_subject o.op) ++ over_cells o.op sc the_cutter (kept sc the_cutter o.op))
      go the_subject c m = Memᴰ.append_left (over_cells o.op sc the_cutter (kept sc the_cutter o.op)) m
      go the_cutter c m = Memᴰ.append_right (over_cells o.op sc the_subject (kept sc the_subject o.op)) m

  pub listed_kept : (p : Piece) → Listed p o s c → Kept sc o.op p
  listed_kept p h = among_kept p (among p h)

  pub kept_listed : (p : Piece) → Kept sc o.op p → Listed p o s c
  kept_listed p k = listed p (kept_among p k)

-- ---- Imprint, Intersection, Difference: one scene, the subject's cells

-- pieces of one scene, cell and place are the same
alike : (sc : Scene) (op op' : ℕ) (p q : Piece) → Kept sc op p → Kept sc op' q → SamePiece q p → q ≡ p
alike sc op op' p q a b e = b.same ∙ (λ t. piece_at sc (e.mesh t) (e.cell t) (e.place t)) ∙ sym a.same

pub not_both : (t : Bool) → t ≡ true → not t ≡ true → ⊥
not_both true e f = true≢false (sym f)
not_both false e f = true≢false (sym e)

-- the three operations cut the same cells
same_cut : (w : Side) → cuts 0 w ≡ true → (cuts 2 w ≡ true) × (cuts 3 w ≡ true)
same_cut the_subject e = (refl, refl)
same_cut the_cutter e = absurd (false≢true e)

module _ (g : Grid) (m₀ m₂ m₃ : ℕ) (s c : Mesh) where
  abbrev imprint : Settings
  imprint = set_on g 0 m₀

  abbrev intersection : Settings
  intersection = set_on g 2 m₂

  abbrev difference : Settings
  difference = set_on g 3 m₃

  pub parts : (p : Piece) → Listed p imprint s c → (Listed p intersection s c × Unlisted p difference s c) ⊎ (Listed p difference s c × Unlisted p intersection s c)
  parts p h = go (lies_inside one p.mesh p) refl
    where
      one : Scene
      one = scene_of g false s c

      k : Kept one 0 p
      k = listed_kept imprint s c p h

      in_op : (op : ℕ) → cuts op p.mesh ≡ true → keeps op p.mesh (lies_inside one p.mesh p) ≡ true → Kept one op p
      in_op op cut e = record { cut = cut; cell = k.cell; place = k.place; same = k.same; passes = e }

      not_in : (op : ℕ) → (keeps op p.mesh (lies_inside one p.mesh p) ≡ true → ⊥) → (q : Piece) → Kept one op q → SamePiece q p → ⊥
      not_in op out q l e = out (ap (λ (x : Piece). keeps op x.mesh (lies_inside one x.mesh x)) (sym (alike one 0 op p q k l e)) ∙ l.passes)

      go : (t : Bool) → lies_inside one p.mesh p ≡ t → (Listed p intersection s c × Unlisted p difference s c) ⊎ (Listed p difference s c × Unlisted p intersection s c)
      go true e = inl (kept_listed intersection s c p (in_op 2 (same_cut p.mesh k.cut).0 e), λ q l f. not_in 3 (λ g. not_both (lies_inside one p.mesh p) e g) q (listed_kept difference s c q l) f)
      go false e = inr (kept_listed difference s c p (in_op 3 (same_cut p.mesh k.cut).1 (ap not e)), λ q l f. not_in 2 (λ g. true≢false (sym g ∙ e)) q (listed_kept intersection s c q l) f)

  -- Imprint drops none
  pub drops_none : (i : ℕ) → i < length (scene_of g false s c).subject.cells → (j : ℕ) → j < length (pieces_of (scene_of g false s c) the_subject i)
      → Listed (piece_at (scene_of g false s c) the_subject i j) imprint s c
  drops_none i h j k = kept_listed imprint s c (piece_at (scene_of g false s c) the_subject i j) (piece_at_kept (scene_of g false s c) 0 the_subject i j refl h k refl)
