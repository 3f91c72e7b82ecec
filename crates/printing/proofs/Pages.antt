-- Texts written one after the other, and what a written list is. Assumes nothing.
use mathlib.Core.Path.{◌≡◌, refl, sym, ap, ◌∙◌}
use mathlib.Core.Bool.{Bool, true, false, cond}
use mathlib.Core.List.{List, [], ◌∷◌, ◌++◌, append-nil}
use Prim.Native.Nat.{ℕ, suc, ◌+◌, ◌-◌, ◌≤◌, ◌<◌}
use native.Mathlib.Nat.{add-zero, zero-add}
use native.Mathlib.Numerals.{add-one}
use native.Mathlib.Omega.{arith}
use native.Mathlib.Decide.{dec_le}
use borrow.Author.Tests.{lt-ltb, le-ltb, le-leb, lt-leb, ltb-true, ltb-false}
use lib.Dec.{ltb, leb}
use lib.ListN.{length, get_or, set, take, drop, length-set, length-drop, drop_of_length-le, take-append-drop}
use lib.Seq.{length-take-le, drop-cons, take-suc-set, drop-set-lt, take_all, append_snoc}
use Rattle.std.specs.Prelude.{Ok, Err}
use Rattle.lists.specs.Regions.{copied, put, front}
use Rattle.lists.proofs.Regions.{copied_fits, copied_not}
use Rattle.printing.specs.declared.Full.{Full}
use Rattle.printing.specs.declared.writer.Writer.{Writer}
use Rattle.printing.specs.Written.{page_of, Wrote}
use Rattle.printing.specs.Page.{Place, full, Page, page, byte, page_with, room_for, laid_over}

-- a text after a text
pub written_append : (g : Page) (t u : List ℕ) → page_with g (t ++ u) ≡ page_with (page_with g t) u
unfolding page_with
written_append g [] u = refl
written_append g (b ∷ t) u = written_append (byte g.place g.bytes b) t u

pub written_nil : (g : Page) → page_with g [] ≡ g
unfolding page_with
written_nil g = refl

-- nothing is written in a full list
pub written_full : (o t : List ℕ) → page_with (page full o) t ≡ page full o
unfolding page_with page byte
written_full o [] = refl
written_full o (b ∷ t) = written_full o t

pub written_refused : (e : Full) (o t : List ℕ) → page_with (page (Err e) o) t ≡ page (Err e) o
written_refused e o t = written_full o t

-- a byte, and the rest of the text
module _ (o : List ℕ) (p b : ℕ) (t : List ℕ) where
  cons_fits : p < length o → page_with (page (Ok p) o) (b ∷ t) ≡ page_with (page (Ok (p + 1)) (set o p b)) t
  unfolding page_with page byte
  cons_fits h = ap (λ (x : Bool). page_with (cond x (page (Ok (p + 1)) (set o p b)) (page full o)) t) (lt-ltb _ _ h)

  cons_full : length o ≤ p → page_with (page (Ok p) o) (b ∷ t) ≡ page full o
  unfolding page_with page byte
  cons_full h = ap (λ (x : Bool). page_with (cond x (page (Ok (p + 1)) (set o p b)) (page full o)) t) (le-ltb _ _ h) ∙ written_full o t

-- ---- what a list holds after a text
-- the place after n bytes from p on, in a list of m
abbrev reach : ℕ → ℕ → Place
reach n m = cond (leb n m) (Ok n) full

abbrev from : List ℕ → ℕ → List ℕ → Page
from o p t = page (reach (p + length t) (length o)) (take p o ++ laid_over (drop p o) t)

laid_nil : (o : List ℕ) → laid_over o [] ≡ o
unfolding laid_over
laid_nil [] = refl
laid_nil (x ∷ o) = refl

laid_cons : (o : List ℕ) (x b : ℕ) (t : List ℕ) → laid_over (x ∷ o) (b ∷ t) ≡ b ∷ laid_over o t
unfolding laid_over
laid_cons o x b t = refl

laid_out : (t : List ℕ) → laid_over [] t ≡ []
unfolding laid_over
laid_out [] = refl
laid_out (b ∷ t) = refl

from_nil : (o : List ℕ) (p : ℕ) → p ≤ length o → page (Ok p) o ≡ from o p []
from_nil o p h = rw (add-zero p, le-leb _ _ h, laid_nil (drop p o), take-append-drop p o)

from_turn : (o : List ℕ) (p b : ℕ) (t : List ℕ) → p < length o → from (set o p b) (p + 1) t ≡ from o p (b ∷ t)
from_turn o p b t h =
    let n : p + 1 + length t ≡ p + suc (length t) = omega arith in
    rw (length-set, n, add-one p, take-suc-set o p b h, drop-set-lt (suc p) o p b (omega arith), drop-cons o p 0 h, laid_cons (drop (suc p) o) (get_or o p 0) b t, append_snoc)

from_full : (o : List ℕ) (p b : ℕ) (t : List ℕ) → length o ≤ p → page full o ≡ from o p (b ∷ t)
from_full o p b t h =
    let l : length o < p + suc (length t) = omega arith in
    rw (lt-leb _ _ l, drop_of_length-le o h, laid_out (b ∷ t), append-nil, take_all p o h)

written_from : (o : List ℕ) (p : ℕ) (t : List ℕ) → p ≤ length o → page_with (page (Ok p) o) t ≡ from o p t
written_from o p [] h = written_nil (page (Ok p) o) ∙ from_nil o p h
written_from o p (b ∷ t) h = go (λ l. written_from (set o p b) (p + 1) t l) (ltb p (length o)) refl
  where
    go : (p + 1 ≤ length (set o p b) → page_with (page (Ok (p + 1)) (set o p b)) t ≡ from (set o p b) (p + 1) t) → (x : Bool) → ltb p (length o) ≡ x
        → page_with (page (Ok p) o) (b ∷ t) ≡ from o p (b ∷ t)
    go ih true e =
        let l : p < length o = ltb-true p (length o) e in
        cons_fits o p b t l ∙ ih (rw length-set (omega arith)) ∙ from_turn o p b t l
    go ih false e =
        let l : length o ≤ p = ltb-false p (length o) e in
        cons_full o p b t l ∙ from_full o p b t l

-- as much of a text as there is room for, and a whole one
module _ (o t : List ℕ) (p : ℕ) where
  pub copied_short : length o - p < length t → page full (copied o p (take (length o - p) t)) ≡ page_with (page (Ok p) o) t
  unfolding put front laid_over
  copied_short h = go (dec_le p (length o))
    where
      r : ℕ
      r = length o - p

      long : length (take r t) ≡ r
      long = length-take-le r t (omega arith)

      go : Dec (p ≤ length o) → page full (copied o p (take r t)) ≡ page_with (page (Ok p) o) t
      go (yes l) =
          let d : length (drop p o) ≡ r = length-drop p o in
          sym (written_from o p t l
          ∙ rw (
            lt-leb (p + length t) (length o) (omega arith),
            d,
            drop_of_length-le (drop p o) {i = length t} (omega (arith, d)),
            copied_fits o p (take r t) (omega (arith, long)),
            long,
            drop_of_length-le (drop p o) {i = r} (omega (arith, d)),
          ))
      go (no l) = rw (copied_not o p (take r t) (omega arith)) (sym (past t h (omega arith)))
        where
          past : (t : List ℕ) → length o - p < length t → length o ≤ p → page_with (page (Ok p) o) t ≡ page full o
          past [] h g = absurd (omega arith)
          past (b ∷ t) h g = cons_full o p b t g

  pub copied_whole : length t ≤ length o - p → page (Ok (p + length t)) (copied o p t) ≡ page_with (page (Ok p) o) t
  unfolding put front laid_over
  copied_whole h = go (dec_le p (length o))
    where
      go : Dec (p ≤ length o) → page (Ok (p + length t)) (copied o p t) ≡ page_with (page (Ok p) o) t
      go (yes l) =
          let d : length (drop p o) ≡ length o - p = length-drop p o in
          sym (written_from o p t l
          ∙ rw (le-leb (p + length t) (length o) (omega arith), take_all (length (drop p o)) t (omega (arith, d)), copied_fits o p t (omega arith)))
      go (no l) = rw (copied_not o p t (omega arith)) (past t (omega arith))
        where
          past : (t : List ℕ) → length t ≤ 0 → page (Ok (p + length t)) o ≡ page_with (page (Ok p) o) t
          past [] h = rw (add-zero p) (sym (written_nil (page (Ok p) o)))
          past (b ∷ t) h = absurd (omega arith)

-- a text from the first place on
pub whole : (o t : List ℕ) → page_with (page (Ok 0) o) t ≡ page (room_for (length o) t) (laid_over o t)
unfolding room_for
whole o t = rw zero-add at (written_from o 0 t (omega arith))

-- a page's parts
pub parts : {p q : Place} {o u : List ℕ} → page p o ≡ page q u → (p ≡ q) × (o ≡ u)
unfolding page
parts e = (ap (λ (g : Page). g.place) e, ap (λ (g : Page). g.bytes) e)

-- ---- a loop that writes: u began to write the text t, v has `rest` of it left
pub record Left (u v : Writer) (rest t : List ℕ) : Type 0 where
  pub text : page_with (page_of v) rest ≡ page_with (page_of u) t
  pub list : v.bytes.ghost_name ≡ u.bytes.ghost_name

-- what is left begins with s
pub turn : {u v w : Writer} {s rest rest₁ t : List ℕ} → Left u v rest t → rest ≡ s ++ rest₁ → Wrote v w s → Left u w rest₁ t
turn {v = v} {s = s} {rest₁ = rest₁} l e h = record { text = rw (h.text, ← written_append (page_of v) s rest₁, ← e) l.text; list = h.list ∙ l.list }
