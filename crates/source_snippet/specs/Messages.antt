-- A message in lines. Numbers stand right in a gutter that is as wide as the greatest of them.
use Rattle.std.specs.Prelude.{ℕ, ◌-◌, List, [], ◌∷◌, ◌++◌, codes, decimal, flat_map, fold, length}
use Rattle.std.specs.Prelude.{map, max, replicate, string_bytes}
use Rattle.source_snippet.specs.Characters.{shown}
use Rattle.source_snippet.specs.Underlines.{Row, marked, row_of}
use Rattle.source_snippet.specs.declared.message.Quoted.{Quoted}
use Rattle.source_snippet.specs.declared.message.Section.{Section}

-- a line of a text, with its number and its labels
pub record Numbered : Type 0 where
  pub number : ℕ
  pub text : List ℕ
  pub rows : List Row

-- a title, a place, lines of the text, and notes
pub record Part : Type 0 where
  pub title : List ℕ
  pub file : List ℕ
  pub line : ℕ
  pub column : ℕ
  pub lines : List Numbered
  pub notes : List (List ℕ)

-- what these are of the code
abbrev pub line_of : Quoted → Numbered
line_of q = record { number = q.number; text = q.text.now; rows = map row_of q.labels.items }

abbrev pub part_of : Section → Part
part_of s = record {
  title = string_bytes s.title;
  file = s.file.now;
  line = s.line;
  column = s.column;
  lines = map line_of s.quoted.items;
  notes = map string_bytes s.notes.items;
}

-- ---- the gutter

-- the numbers of lines that a part names
abbrev pub numbers_in : Part → List ℕ
numbers_in p = p.line ∷ map (λ l. l.number) p.lines

-- how wide the gutter is: as long as the greatest number
abbrev pub gutter : List Part → ℕ
gutter ps = length (decimal (fold max 0 (flat_map numbers_in ps)))

-- ---- lines, with their ends

-- an empty line of text: `  |`
abbrev pub bar : ℕ → List ℕ
bar width = replicate width 32 ++ codes " |\n"

-- the place: ` --> file:line:column`
abbrev pub place_line : ℕ → Part → List ℕ
place_line width p =
    replicate width 32 ++ (codes "--> " ++ (shown p.file ++ (codes ":" ++ (decimal p.line
    ++ (codes ":" ++ (decimal p.column ++ (10 ∷ [])))))))

-- a line of the text: `9 | text`
abbrev pub text_line : ℕ → Numbered → List ℕ
text_line width l =
    replicate (width - length (decimal l.number)) 32
    ++ (decimal l.number ++ (codes " | " ++ (shown l.text ++ (10 ∷ []))))

-- the marks of a label under it: `  |   ^^^ words`
abbrev pub label_line : ℕ → List ℕ → Row → List ℕ
label_line width line r = replicate width 32 ++ (codes " | " ++ (marked line r ++ (10 ∷ [])))

-- a note: `  = words`
abbrev pub note_line : ℕ → List ℕ → List ℕ
note_line width words = replicate width 32 ++ (codes " = " ++ (shown words ++ (10 ∷ [])))

-- ---- parts

-- a line of the text, and its labels
abbrev pub numbered : ℕ → Numbered → List ℕ
numbered width l = text_line width l ++ flat_map (label_line width l.text) l.rows

-- several of them, with `...` between
abbrev pub all_numbered : ℕ → List Numbered → List ℕ
all_numbered width [] = []
all_numbered width (l ∷ ls) =
    numbered width l ++ flat_map (λ m. codes "...\n" ++ numbered width m) ls

-- the title, the place, the lines and the notes
abbrev pub part_lines : ℕ → Part → List ℕ
part_lines width p =
    shown p.title ++ (codes "\n" ++ (place_line width p ++ (bar width
    ++ (all_numbered width p.lines ++ flat_map (note_line width) p.notes))))

-- parts, with `  |` between
abbrev pub all_parts : ℕ → List Part → List ℕ
all_parts width [] = []
all_parts width (p ∷ ps) = part_lines width p ++ flat_map (λ q. bar width ++ part_lines width q) ps

-- a message of these parts
abbrev pub message : List Part → List ℕ
message ps = all_parts (gutter ps) ps
