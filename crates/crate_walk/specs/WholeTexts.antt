-- The texts of a crate's files as one text. (The Rust Reference, "Modules": a module with a body, and
-- one that is in a file of its own.)
use Rattle.std.specs.Prelude.{◌≡◌, ℕ, ◌+◌, Bool, false, ◌==◌, List, [], ◌∷◌, ◌++◌, codes, drop, Option, Some, None, is_some, option_and_then, option_map, slice_range, unwrap_or, if◌then◌else◌}
use Rattle.std.specs.List.{slice_get}
use Rattle.crate_walk.specs.declared.whole_text.FileText.{FileText}
use Rattle.crate_walk.specs.declared.step.Lack.{Lack}
use Rattle.crate_walk.specs.declared.step.Place.{Place}
use Rattle.crate_walk.specs.declared.step.Step.{Step}
use Rattle.crate_walk.specs.declared.step.Step.TheVariants as step

-- what stands around the text of a file, in the place of its module's `;`
abbrev pub opening : List ℕ
opening = codes "{\n"

abbrev pub closing : List ℕ
closing = codes "}"

-- the byte `;`
abbrev pub semicolon : ℕ
semicolon = 59

-- a text has a `;` at this offset
abbrev pub has_semicolon : List ℕ → ℕ → Bool
has_semicolon text at = unwrap_or (option_map (λ b. b == semicolon) (slice_get text at)) false

-- an offset, where a text has a `;` there
abbrev pub checked : List ℕ → ℕ → Option ℕ
checked text at = if has_semicolon text at then Some at else None

-- the offset of the `;` of the event of this index in the text of its file
abbrev pub end_in : Option FileText → ℕ → Option ℕ
end_in None event = None
end_in (Some t) event =
    option_and_then (checked t.text.items) (option_and_then (λ e. e) (slice_get t.ends.items event))

-- the bytes of a text
abbrev pub bytes_of : Option FileText → List ℕ
bytes_of None = []
bytes_of (Some t) = t.text.items

-- the texts of files by their numbers: a file that has none is not written, and none is in the place
-- of a file that is not
module _ (texts : List (Option FileText)) where
  -- the text of a file
  abbrev pub text_of : Option ℕ → Option FileText
  text_of file = option_and_then (λ k. option_and_then (λ t. t) (slice_get texts k)) file

  -- where the text of the file `k` stands in that of another: at the `;` of the event of this index
  abbrev pub place_in : Option ℕ → ℕ → ℕ → Option ℕ
  place_in file event k =
      if is_some (text_of (Some k)) then end_in (text_of file) event else None

  -- steps in a file write these bytes, and what of its text is in them goes from one offset to
  -- another
  pub data Writes : Option ℕ → ℕ → List Step → List ℕ → ℕ → Type 0 where
    -- no step is left
    nothing : (file : Option ℕ) (from : ℕ) → Writes file from [] [] from
    -- an item that is no module
    item : (file : Option ℕ) (from to : ℕ) (p : Place) (steps : List Step) (out : List ℕ)
        → Writes file from steps out to
        → Writes file from (step.Item p ∷ steps) out to
    -- a module that was passed over stays as it is
    passed : (file : Option ℕ) (from to : ℕ) (p : Place) (why : Lack) (steps : List Step)
        (out : List ℕ)
        → Writes file from steps out to
        → Writes file from (step.Lack p why ∷ steps) out to
    -- a module in braces: what is in it, and what follows
    inline : (file : Option ℕ) (from mid to : ℕ) (p : Place) (inner rest : List Step)
        (within behind : List ℕ)
        → Writes file from inner within mid
        → Writes file mid rest behind to
        → Writes file from (step.Inline p ∷ (inner ++ step.End ∷ rest)) (within ++ behind) to
    -- a module in a file of its own: the text up to its `;`, that of the file in braces, and what
    -- follows behind the `;`
    file : (outer : Option ℕ) (from here last to : ℕ) (p : Place) (k : ℕ)
        (inner rest : List Step) (within behind : List ℕ)
        → place_in outer p.event k ≡ Some here
        → Writes (Some k) 0 inner within last
        → Writes outer (here + 1) rest behind to
        → Writes outer from (step.File p k ∷ (inner ++ step.End ∷ rest))
        (slice_range (bytes_of (text_of outer)) from here
        ++ (opening ++ ((within ++ drop last (bytes_of (text_of (Some k)))) ++ (closing ++ behind)))) to
    -- a module whose file has no text, or that has no `;`, stays as it is
    left : (outer : Option ℕ) (from last to : ℕ) (p : Place) (k : ℕ)
        (inner rest : List Step) (behind : List ℕ)
        → place_in outer p.event k ≡ None
        → Writes None 0 inner [] last
        → Writes outer from rest behind to
        → Writes outer from (step.File p k ∷ (inner ++ step.End ∷ rest)) behind to

  -- the text of a whole crate: that of the root, the file 0, with what its steps write in it
  pub record IsWhole (steps : List Step) (out : List ℕ) : Type 0 where
    pub inner : List Step
    pub front : List ℕ
    pub last : ℕ
    pub are : steps ≡ inner ++ step.End ∷ []
    pub writes : Writes (Some 0) 0 inner front last
    pub whole : out ≡ front ++ drop last (bytes_of (text_of (Some 0)))
