-- A page in parts.
use Rattle.std.specs.Prelude.{◌≡◌, ℕ, ◌<◌, ◌^◌, List, [], ◌∷◌, ◌++◌, Option, Some, None, codes, decimal, nat_lt, if◌then◌else◌, drop, length, map, string_bytes}
use Rattle.html_code.specs.Parts.{Part, tag, shown, isolated, html_of}
use Rattle.html_code.specs.ExpansionParts.{expansion_parts, number_here}
use Rattle.html_code.specs.Numbers.{AreNumbers}
use Rattle.html_code.specs.Origins.{AreOriginNumbers}
use Rattle.html_code.specs.SourceParts.{source_parts, token_starts}
use Rattle.html_code.specs.declared.layout.Gap.{Gap}
use Rattle.html_code.specs.declared.page.Frame.{Frame}
use Rattle.html_code.specs.declared.page.Printed.{Printed}
use Rattle.html_code.specs.declared.page.Shown.{Shown}
use Rattle.html_code.specs.declared.source.Mark.{Mark}

abbrev pub link_tag : ℕ → List ℕ
link_tag number = codes "<li><a href=#s" ++ (decimal number ++ codes ">")

-- a link to the token of a number, which says what the fault is
abbrev pub fault_part : ℕ → List ℕ → List Part
fault_part number told = tag (link_tag number) ∷ isolated [] told ∷ tag (codes "</a>") ∷ []

abbrev pub fault_parts : List ℕ → List Mark → List Part
fault_parts numbers [] = []
fault_parts numbers (f ∷ fs) = fault_part (number_here numbers) f.told.now
    ++ fault_parts (drop 1 numbers) fs

-- an expansion of more than 20,000 printed tokens is shown folded
abbrev pub fold_of : ℕ → List ℕ
fold_of tokens = if nat_lt 20000 tokens then codes "<details><summary>"
    else codes "<details open><summary>"

abbrev pub counts_of : (bytes faults : ℕ) → Option Printed → List ℕ
counts_of bytes faults None = codes "bytes: " ++ (decimal bytes ++ codes ", not read")
counts_of bytes faults (Some printed) =
    codes "bytes: " ++ (decimal bytes
    ++ (codes ", printed tokens: " ++ (decimal (length printed.origins.now)
    ++ (codes ", expanded anew: "
    ++ (decimal printed.expanded ++ (codes ", faults: " ++ decimal faults))))))

-- a printed text of at most `u32::MAX` bytes, if any
abbrev pub IsShort : Option Printed → Type 0
IsShort None = Unit {0}
IsShort (Some printed) = length printed.text.now < 2 ^ 32

-- a link for each fault is added
pub record AddsLinks (old new starts : List ℕ) (faults : List Mark) : Type 0 where
  pub numbers : List ℕ
  pub are_numbers : AreNumbers starts (map (λ f. f.start) faults) numbers
  pub html : new ≡ old ++ html_of (fault_parts numbers faults)

module _ (frame : Frame) where
  -- the title twice: of the page, and as its heading
  abbrev pub head_parts : List ℕ → List Part
  head_parts title = tag frame.head.now ∷ shown title ∷ tag frame.heading.now ∷ isolated [] title
      ∷ tag frame.counts.now ∷ []

  -- what was printed is added: some white space between its tokens, and the numbers of their
  -- origins
  abbrev pub AddsPrinted : (old new starts : List ℕ) → Option Printed → Type 0
  AddsPrinted old new starts None = new ≡ old ++ frame.unread.now
  AddsPrinted old new starts (Some printed) =
      (numbers : List ℕ) × AreOriginNumbers starts printed.origins.now numbers × (gaps : List Gap)
      × (new ≡ old ++ html_of
      (expansion_parts (fold_of (length printed.origins.now))
      (map string_bytes printed.names.now)
      gaps numbers printed.origins.now printed.text.now))

  -- a page: its bytes up to the expansion, up to the links, and all
  pub record IsPage (page : Shown) (html : List ℕ) : Type 0 where
    pub cuts : List (Option ℕ)
    pub shown : List ℕ
    pub linked : List ℕ
    pub is_shown :
        AddsPrinted
        (html_of (head_parts page.title.now)
        ++ counts_of (length page.text.now) (length page.faults.now) page.printed
        ++ frame.source.now ++ html_of (source_parts cuts page.faults.now page.text.now)
        ++ frame.expansion.now)
        shown (token_starts page.text.now) page.printed
    pub is_linked : AddsLinks (shown ++ frame.faults.now) linked
        (token_starts page.text.now) page.faults.now
    pub is_all : html ≡ linked ++ frame.foot.now
