-- Reading, as a function of the rest of the text. proofs/Inputs.antt shows that it undoes printing, proofs/OnlyInputs.antt that nothing but printed text is read.
-- Assumes nothing.
use Rattle.std.specs.Prelude.{ℕ, zero, suc, ◌+◌, ◌-◌, ◌*◌, cond, List, [], ◌∷◌, ◌++◌, length, ltb, leb, eqb, Option, None, Some}
use Rattle.settings.specs.declared.Settings.{Settings}
use Rattle.text.specs.Given.{Parsed, coordinate, Nodes, Cells, ReadMesh, Limits, Given}
use Rattle.text.specs.Text.{node_word, cell_word, mesh_word, overlay_word, space, newline, close}

-- what follows a word, where it stands there
abbrev pub Rest : Type 0
Rest = Option (List ℕ)

module _ {A : Type 0} where
  unfoldable pub if_word : Rest → (List ℕ → Parsed A) → Parsed A → Parsed A
  if_word None f d = d
  if_word (Some t) f d = f t

  unfoldable pub after_word : Rest → (List ℕ → Parsed A) → Parsed A
  after_word None f = None
  after_word (Some t) f = f t

  unfoldable pub and_then : {B : Type 0} → Parsed B → (B → List ℕ → Parsed A) → Parsed A
  and_then None f = None
  and_then (Some (b, t)) f = f b t

-- ---- words and numbers
unfoldable pub word_from : List ℕ → List ℕ → Rest
word_from [] t = Some t
word_from (c ∷ w) [] = None
word_from (c ∷ w) (b ∷ t) = cond (eqb b c) (word_from w t) None

unfoldable pub digit_val : ℕ → ℕ
digit_val b = cond (ltb b 48) 255 (cond (ltb b 58) (b - 48) 255)

unfoldable pub hex_val : ℕ → ℕ
hex_val b = cond (ltb b 97) (digit_val b) (cond (ltb b 103) (b - 87) 255)

-- more digits, of a number that begins with v
unfoldable pub more_from : ℕ → List ℕ → Parsed ℕ
more_from v [] = Some (v, [])
more_from v (b ∷ t) =
    cond (ltb (digit_val b) 10)
    (cond (leb (v * 10 + digit_val b) 4294967295) (more_from (v * 10 + digit_val b) t) None)
    (Some (v, b ∷ t))

unfoldable pub decimal_from : List ℕ → Parsed ℕ
decimal_from [] = None
decimal_from (b ∷ t) = cond (ltb (digit_val b) 10) (cond (eqb (digit_val b) 0) (Some (0, t)) (more_from (digit_val b) t)) None

-- k more hexadecimal digits, of a number that begins with v
unfoldable pub hex_from : ℕ → ℕ → List ℕ → Parsed ℕ
hex_from zero v t = Some (v, t)
hex_from (suc k) v [] = None
hex_from (suc k) v (b ∷ t) = cond (ltb (hex_val b) 16) (cond (ltb v 1152921504606846976) (hex_from k (v * 16 + hex_val b) t) None) None

-- ---- lines
-- up to k times the word w and what f reads after it
unfoldable pub repeated : {A : Type 0} → List ℕ → (A → List ℕ → Parsed A) → ℕ → A → List ℕ → Parsed A
repeated w f zero a t = Some (a, t)
repeated w f (suc k) a t = if_word (word_from w t) (λ t₁. and_then (f a t₁) (λ a₁ t₂. repeated w f k a₁ t₂)) (Some (a, t))

-- a node line after its word
unfoldable pub node_from : List ℕ → Parsed Nodes
node_from t =
    and_then (hex_from 16 0 t)
    (λ x t₁. after_word (word_from space t₁)
    (λ t₂. and_then (hex_from 16 0 t₂)
    (λ y t₃. after_word (word_from space t₃)
    (λ t₄. and_then (decimal_from t₄)
    (λ l t₅. after_word (word_from close t₅)
    (λ t₆. Some (record { coords = coordinate x ∷ coordinate y ∷ []; layers = l ∷ [] }, t₆)))))))

unfoldable pub add_node : Nodes → Nodes → Nodes
add_node ns n = record { coords = ns.coords ++ n.coords; layers = ns.layers ++ n.layers }

unfoldable pub node_step : Nodes → List ℕ → Parsed Nodes
node_step ns t = and_then (node_from t) (λ n t₁. Some (add_node ns n, t₁))

unfoldable pub nodes_from : ℕ → Nodes → List ℕ → Parsed Nodes
nodes_from k ns t = repeated node_word node_step k ns t

abbrev pub no_nodes : Nodes
no_nodes = record { coords = []; layers = [] }

unfoldable pub entry_step : List ℕ → List ℕ → Parsed (List ℕ)
entry_step ns t = and_then (decimal_from t) (λ n t₁. Some (ns ++ (n ∷ []), t₁))

unfoldable pub entries_from : ℕ → List ℕ → List ℕ → Parsed (List ℕ)
entries_from k ns t = repeated space entry_step k ns t

pub record Heading : Type 0 where
  pub kind : ℕ
  pub family : ℕ

-- a cell line's kind and family
unfoldable pub head_from : List ℕ → Parsed Heading
head_from t =
    and_then (decimal_from t)
    (λ k t₁. cond (leb k 255)
    (after_word (word_from space t₁) (λ t₂. and_then (decimal_from t₂) (λ f t₃. Some (record { kind = k; family = f }, t₃))))
    None)

pub record Cell : Type 0 where
  pub heading : Heading
  pub nodes : List ℕ

-- a cell line after its word, where a mesh has `room` entries at the most: `nodes` are all entries up to its own last
unfoldable pub cell_from : ℕ → List ℕ → List ℕ → Parsed Cell
cell_from room ns t =
    and_then (head_from t)
    (λ h t₁. and_then (entries_from (room - length ns) ns t₁)
    (λ ms t₂. after_word (word_from close t₂)
    (λ t₃. Some (record { heading = h; nodes = ms }, t₃))))

unfoldable pub add_cell : Cells → Cell → Cells
add_cell cs x =
    record {
      nodes = x.nodes;
      ends = cs.ends ++ (length x.nodes ∷ []);
      kinds = cs.kinds ++ (x.heading.kind ∷ []);
      families = cs.families ++ (x.heading.family ∷ []);
    }

unfoldable pub cell_step : ℕ → Cells → List ℕ → Parsed Cells
cell_step room cs t = and_then (cell_from room cs.nodes t) (λ x t₁. Some (add_cell cs x, t₁))

unfoldable pub cells_from : ℕ → ℕ → Cells → List ℕ → Parsed Cells
cells_from room k cs t = repeated cell_word (cell_step room) k cs t

abbrev pub empty : Cells
empty = record { nodes = []; ends = []; kinds = []; families = [] }

unfoldable pub mesh_from : Limits → List ℕ → Parsed ReadMesh
mesh_from l t =
    after_word (word_from mesh_word t)
    (λ t₁. and_then (nodes_from l.nodes no_nodes t₁)
    (λ ns t₂. and_then (cells_from l.entries l.cells empty t₂)
    (λ cl t₃. after_word (word_from close t₃)
    (λ t₄. Some (record { points = ns; cells = cl }, t₄)))))

-- k, where a space follows M
unfoldable pub grid_from : List ℕ → Parsed (Option ℕ)
grid_from t = if_word (word_from space t) (λ t₁. and_then (decimal_from t₁) (λ k t₂. Some (Some k, t₂))) (Some (None, t))

unfoldable pub first_from : List ℕ → Parsed Settings
first_from t =
    after_word (word_from overlay_word t)
    (λ t₁. and_then (decimal_from t₁)
    (λ op t₂. after_word (word_from space t₂)
    (λ t₃. and_then (decimal_from t₃)
    (λ m t₄. and_then (grid_from t₄)
    (λ grid t₅. after_word (word_from newline t₅)
    (λ t₆. Some (record { op = op; m = m; grid = grid }, t₆)))))))

-- an input of at most 65,536 bytes, its two meshes within their limits, and nothing after it
unfoldable pub input_from : Limits → Limits → List ℕ → Parsed Given
input_from l k t =
    cond (leb (length t) 65536)
    (and_then (first_from t)
    (λ h t₁. and_then (mesh_from l t₁)
    (λ s t₂. and_then (mesh_from k t₂)
    (λ c t₃. after_word (word_from close t₃)
    (λ t₄. cond (eqb (length t₄) 0) (Some (record { settings = h; subject = s; cutter = c }, [])) None)))))
    None
