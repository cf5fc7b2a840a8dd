-- HTML in parts: tags as they are, and texts that are shown.
use Rattle.std.specs.Prelude.{◌≡◌, ℕ, List, [], ◌∷◌, ◌++◌, OnOk, Result, String, codes, string_bytes}
use Rattle.html_code.specs.Escaping.{escaped}

pub data Part : Type 0 where
  -- written as it is
  tag : List ℕ → Part
  -- a text, which is escaped
  shown : List ℕ → Part
  -- a text, which is escaped, in an element of its own with these attributes. The order of what is
  -- in it and of what is outside do not depend on each other. (The HTML Standard, "The bdi
  -- element")
  isolated : (attributes text : List ℕ) → Part

-- what follows the attributes of an element with this text
abbrev pub content_of : List ℕ → List ℕ
content_of s = codes ">" ++ (escaped s ++ codes "</bdi>")

abbrev pub html_of_part : Part → List ℕ
html_of_part (tag t) = t
html_of_part (shown s) = escaped s
html_of_part (isolated attributes s) = codes "<bdi" ++ (attributes ++ content_of s)

-- the bytes of a list of parts
abbrev pub html_of : List Part → List ℕ
html_of [] = []
html_of (p ∷ ps) = html_of_part p ++ html_of ps

abbrev pub text_of_part : Part → List ℕ
text_of_part (tag t) = []
text_of_part (shown s) = s
text_of_part (isolated attributes s) = s

-- the text that they show
abbrev pub text_of : List Part → List ℕ
text_of [] = []
text_of (p ∷ ps) = text_of_part p ++ text_of ps

-- a call that succeeds adds these bytes to a page
abbrev pub Adds : {T E A : Type 0} → Result T E → (old new : String A) → List ℕ → Type 0
Adds result old new bytes = OnOk result (string_bytes new ≡ string_bytes old ++ bytes)
