-- A mesh and an input from their parts. Assumes nothing.
use mathlib.Core.Path.{◌≡◌}
use mathlib.Core.List.{List, []}
use Prim.Native.Nat.{ℕ, ◌≤◌, ◌<◌}
use borrow.Author.Tests.{le-leb, lt-leb, eq-eqb, ne_eqb}
use lib.ListN.{length}
use Rattle.std.specs.Prelude.{None, Some}
use Rattle.settings.specs.declared.Settings.{Settings}
use Rattle.text.specs.Text.{mesh_word, close}
use Rattle.text.specs.Read.{and_then, after_word, word_from, nodes_from, cells_from, mesh_from, first_from, input_from, no_nodes, empty}
use Rattle.text.specs.Given.{Nodes, Cells, Limits, ReadMesh}

pub mesh_read : (l : Limits) (t t₁ t₂ t₃ t₄ : List ℕ) (ns : Nodes) (cl : Cells) → word_from mesh_word t ≡ Some t₁ → nodes_from l.nodes no_nodes t₁ ≡ Some (ns, t₂)
    → cells_from l.entries l.cells empty t₂ ≡ Some (cl, t₃) → word_from close t₃ ≡ Some t₄ → mesh_from l t ≡ Some (record { points = ns; cells = cl }, t₄)
unfolding mesh_from and_then after_word
mesh_read l t t₁ t₂ t₃ t₄ ns cl e₁ e₂ e₃ e₄ = rw (e₁, e₂, e₃, e₄)

module _ (l k : Limits) (t : List ℕ) where
  pub input_long : 65536 < length t → input_from l k t ≡ None
  unfolding input_from
  input_long h = rw (lt-leb _ _ h)

  module _ (h : length t ≤ 65536) where
    pub input_no_first : first_from t ≡ None → input_from l k t ≡ None
    unfolding input_from and_then
    input_no_first e = rw (le-leb _ _ h, e)

    module _ (f : Settings) (t₁ : List ℕ) (e₁ : first_from t ≡ Some (f, t₁)) where
      pub input_no_subject : mesh_from l t₁ ≡ None → input_from l k t ≡ None
      unfolding input_from and_then
      input_no_subject e = rw (le-leb _ _ h, e₁, e)

      module _ (s : ReadMesh) (t₂ : List ℕ) (e₂ : mesh_from l t₁ ≡ Some (s, t₂)) where
        pub input_no_cutter : mesh_from k t₂ ≡ None → input_from l k t ≡ None
        unfolding input_from and_then
        input_no_cutter e = rw (le-leb _ _ h, e₁, e₂, e)

        module _ (c : ReadMesh) (t₃ : List ℕ) (e₃ : mesh_from k t₂ ≡ Some (c, t₃)) where
          pub input_no_close : word_from close t₃ ≡ None → input_from l k t ≡ None
          unfolding input_from and_then after_word
          input_no_close e = rw (le-leb _ _ h, e₁, e₂, e₃, e)

          module _ (t₄ : List ℕ) (e₄ : word_from close t₃ ≡ Some t₄) where
            pub input_more : (length t₄ ≡ 0 → ⊥) → input_from l k t ≡ None
            unfolding input_from and_then after_word
            input_more z = rw (le-leb _ _ h, e₁, e₂, e₃, e₄, ne_eqb _ _ z)

            pub input_read : length t₄ ≡ 0 → input_from l k t ≡ Some (record { settings = f; subject = s; cutter = c }, [])
            unfolding input_from and_then after_word
            input_read z = rw (le-leb _ _ h, e₁, e₂, e₃, e₄, eq-eqb _ _ z)
