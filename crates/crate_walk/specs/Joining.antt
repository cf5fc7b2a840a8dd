-- A text that is written step by step: the modules that are begun, and what each step writes.
use Rattle.std.specs.Prelude.{◌≡◌, ℕ, ◌+◌, List, [], ◌∷◌, ◌++◌, drop, Option, Some, None, slice_range}
use Rattle.crate_walk.specs.WholeTexts.{bytes_of, closing, opening, place_in, text_of}
use Rattle.crate_walk.specs.declared.whole_text.FileText.{FileText}
use Rattle.crate_walk.specs.declared.whole_text.Kind.{Kind}
use Rattle.crate_walk.specs.declared.whole_text.Kind.TheVariants.{Root, Inline, File, Left}
use Rattle.crate_walk.specs.declared.whole_text.Part.{Part}
use Rattle.crate_walk.specs.declared.step.Step.{Step}
use Rattle.crate_walk.specs.declared.step.Step.TheVariants as step

-- parts that begin
abbrev pub inline_part : Part → Part
inline_part f = record f { kind = Inline }

abbrev pub file_part : ℕ → Part
file_part k = record { file = Some k; at = 0; kind = File }

abbrev pub left_part : Part
left_part = record { file = None; at = 0; kind = Left }

abbrev pub root_part : Part
root_part = record { file = Some 0; at = 0; kind = Root }

-- the parts around one of this kind that ends when so much of its file is written
abbrev pub around : Kind → ℕ → List Part → List Part
around Inline at [] = []
around Inline at (g ∷ gs) = record g { at = at } ∷ gs
around File at gs = gs
around Root at gs = gs
around Left at gs = gs

-- what the end of a part of this kind writes, where this is left of the text of its file
abbrev pub ending : Kind → List ℕ → List ℕ
ending Root rest = rest
ending Inline rest = []
ending File rest = rest ++ closing
ending Left rest = []

module _ (texts : List (Option FileText)) where
  -- what is left of the text of a part's file
  abbrev pub rest_of : Part → List ℕ
  rest_of f = drop f.at (bytes_of (text_of texts f.file))

  -- what is written where the text of a file begins, or not
  abbrev pub put_at : Part → Option ℕ → List ℕ
  put_at f None = []
  put_at f (Some here) = slice_range (bytes_of (text_of texts f.file)) f.at here ++ opening

  -- the parts after that
  abbrev pub begun_at : Part → ℕ → Option ℕ → List Part
  begun_at f k None = left_part ∷ f ∷ []
  begun_at f k (Some here) = file_part k ∷ record f { at = here + 1 } ∷ []

  -- what a step writes in the innermost part, and the parts that this and those around it become
  abbrev pub put : List Part → Step → List ℕ
  put [] s = []
  put (f ∷ fs) (step.Item p) = []
  put (f ∷ fs) (step.Lack p why) = []
  put (f ∷ fs) (step.Inline p) = []
  put (f ∷ fs) (step.File p k) = put_at f (place_in texts f.file p.event k)
  put (f ∷ fs) step.End = ending f.kind (rest_of f)

  abbrev pub after : List Part → Step → List Part
  after [] s = []
  after (f ∷ fs) (step.Item p) = f ∷ fs
  after (f ∷ fs) (step.Lack p why) = f ∷ fs
  after (f ∷ fs) (step.Inline p) = inline_part f ∷ f ∷ fs
  after (f ∷ fs) (step.File p k) = begun_at f k (place_in texts f.file p.event k) ++ fs
  after (f ∷ fs) step.End = around f.kind f.at fs

  -- what steps write, one after another
  abbrev pub written : List Part → List Step → List ℕ
  written fs [] = []
  written fs (s ∷ steps) = put fs s ++ written (after fs s) steps
