-- A text that is written step by step is that of the grammar.
use Rattle.std.proofs.Common.{◌≡◌, ℕ, zero, suc, ◌+◌, Bool, true, false, Option, Some, None, List, [], ◌∷◌, ◌++◌, length, drop, sym, ap, ◌∙◌, refl, append_assoc, append-nil, subst}
use Rattle.std.specs.Prelude.{is_some, slice_range, if◌then◌else◌}
use Rattle.crate_walk.specs.Closing.{closes}
use Rattle.crate_walk.specs.Joining.{after, around, begun_at, ending, file_part, inline_part, left_part, put, put_at, rest_of, root_part, written}
use Rattle.crate_walk.specs.WholeTexts.{IsWhole, Writes, bytes_of, closing, end_in, opening, place_in, text_of}
use Rattle.crate_walk.specs.WholeTexts.Writes.{nothing, item, passed, inline, file, left}
use Rattle.crate_walk.specs.declared.step.Lack.{Lack}
use Rattle.crate_walk.specs.declared.step.Place.{Place}
use Rattle.crate_walk.specs.declared.step.Step.{Step}
use Rattle.crate_walk.specs.declared.step.Step.TheVariants as step
use Rattle.crate_walk.specs.declared.whole_text.FileText.{FileText}
use Rattle.crate_walk.specs.declared.whole_text.Kind.{Kind}
use Rattle.crate_walk.specs.declared.whole_text.Kind.TheVariants.{Root, Inline, File, Left}
use Rattle.crate_walk.specs.declared.whole_text.Part.{Part}

-- as many parts are around one that ends
length_around : (kind : Kind) (at : ℕ) (fs : List Part) → length (around kind at fs) ≡ length fs
length_around Inline at [] = refl
length_around Inline at (g ∷ gs) = refl
length_around File at fs = refl
length_around Root at fs = refl
length_around Left at fs = refl

module _ (texts : List (Option FileText)) where
  -- two more where one begins
  length_begun : (f : Part) (k : ℕ) (o : Option ℕ) (fs : List Part)
      → length (begun_at texts f k o ++ fs) ≡ suc (suc (length fs))
  length_begun f k None fs = refl
  length_begun f k (Some here) fs = refl

  -- the parts that are begun write these bytes by these steps
  data Fills : List Part → List Step → List ℕ → Type 0 where
    done : Fills [] [] []
    part : (f : Part) (fs : List Part) (inner rest steps : List Step) (within behind out : List ℕ)
        (to : ℕ)
        → Writes texts f.file f.at inner within to
        → Fills (around f.kind to fs) rest behind
        → steps ≡ inner ++ step.End ∷ rest
        → out ≡ within ++ (ending f.kind (rest_of texts (record f { at = to })) ++ behind)
        → Fills (f ∷ fs) steps out

  -- a module is in no file that is not written
  no_place : (file : Option ℕ) (event k here : ℕ) → file ≡ None → place_in texts file event k ≡ Some here → ⊥
  no_place None event k here e h = go (is_some (text_of texts (Some k))) h
    where
      go : (b : Bool) → (if b then end_in None event else None) ≡ Some here → ⊥
      go true is = cc
      go false is = cc
  no_place (Some n) event k here e h = cc

  -- nothing is written of a file that is not
  none_written : (file : Option ℕ) (from to : ℕ) (steps : List Step) (out : List ℕ) → file ≡ None
      → Writes texts file from steps out to → out ≡ []
  none_written f from to steps out e (nothing _ _) = refl
  none_written f from to steps out e (item _ _ _ p inner _ w) = none_written f from to inner out e w
  none_written f from to steps out e (passed _ _ _ p why inner _ w) = none_written f from to inner out e w
  none_written f from to steps out e (inline _ _ mid _ p inner rest a b w v) =
      let x : a ≡ [] = none_written f from mid inner a e w in
      let y : b ≡ [] = none_written f mid to rest b e v in
      cc
  none_written f from to steps out e (file _ _ here last _ p k inner rest a b at w v) =
      absurd (no_place f p.event k here e at)
  none_written f from to steps out e (left _ _ last _ p k inner rest b at w v) = none_written f from to rest b e v

  -- an item, or a module that was passed over
  fills_item : (f : Part) (fs : List Part) (p : Place) (s : List Step) (out : List ℕ)
      → Fills (f ∷ fs) s out → Fills (f ∷ fs) (step.Item p ∷ s) out
  fills_item f fs p s out (part _ _ inner rest _ within behind _ to w r e g) =
      part f fs (step.Item p ∷ inner) rest (step.Item p ∷ s) within behind out to
      (item f.file f.at to p inner within w) r (ap (λ (l : List Step). step.Item p ∷ l) e) g

  fills_passed : (f : Part) (fs : List Part) (p : Place) (why : Lack) (s : List Step) (out : List ℕ)
      → Fills (f ∷ fs) s out → Fills (f ∷ fs) (step.Lack p why ∷ s) out
  fills_passed f fs p why s out (part _ _ inner rest _ within behind _ to w r e g) =
      part f fs (step.Lack p why ∷ inner) rest (step.Lack p why ∷ s) within behind out to
      (passed f.file f.at to p why inner within w) r (ap (λ (l : List Step). step.Lack p why ∷ l) e) g

  -- the steps of a module, and those of the part around it
  both_steps : (x : Step) (s inner rest more behind : List Step)
      → s ≡ inner ++ step.End ∷ rest → rest ≡ more ++ step.End ∷ behind
      → x ∷ s ≡ (x ∷ (inner ++ step.End ∷ more)) ++ step.End ∷ behind
  both_steps x s inner rest more behind e g =
      ap (λ (l : List Step). x ∷ l) (e ∙ (ap (λ (l : List Step). inner ++ step.End ∷ l) g
      ∙ sym (append_assoc inner (step.End ∷ more) (step.End ∷ behind))))

  -- a module in braces
  fills_inline : (f : Part) (fs : List Part) (p : Place) (s : List Step) (out : List ℕ)
      → Fills (inline_part f ∷ f ∷ fs) s out → Fills (f ∷ fs) (step.Inline p ∷ s) out
  fills_inline f fs p s out (part _ _ inner rest _ within behind _ mid w
      (part _ _ more last _ next following _ to v r d h) e g) =
      part f fs (step.Inline p ∷ (inner ++ step.End ∷ more)) last (step.Inline p ∷ s) (within ++ next) following out to
      (inline f.file f.at mid to p inner more within next w v) r (both_steps (step.Inline p) s inner rest more last e d)
      (g ∙ (ap (λ (l : List ℕ). within ++ l) h ∙ sym (append_assoc within next _)))

  -- a module in the place of which a file stands
  fills_file : (f : Part) (fs : List Part) (p : Place) (k here : ℕ) (s : List Step) (out : List ℕ)
      → place_in texts f.file p.event k ≡ Some here
      → Fills (file_part k ∷ record f { at = here + 1 } ∷ fs) s out
      → Fills (f ∷ fs) (step.File p k ∷ s) ((slice_range (bytes_of (text_of texts f.file)) f.at here ++ opening) ++ out)
  fills_file f fs p k here s out is (part _ _ inner rest _ within behind _ last w
      (part _ _ more end _ next following _ to v r d h) e g) =
      part f fs (step.File p k ∷ (inner ++ step.End ∷ more)) end (step.File p k ∷ s) _ following _ to
      (file f.file f.at here last to p k inner more within next is w v) r
      (both_steps (step.File p k) s inner rest more end e d) (rw (g, h) (simp append_assoc))

  -- a module that stays as it is
  fills_left : (f : Part) (fs : List Part) (p : Place) (k : ℕ) (s : List Step) (out : List ℕ)
      → place_in texts f.file p.event k ≡ None
      → Fills (left_part ∷ f ∷ fs) s out → Fills (f ∷ fs) (step.File p k ∷ s) out
  fills_left f fs p k s out is (part _ _ inner rest _ within behind _ last w
      (part _ _ more end _ next following _ to v r d h) e g) =
      let none : within ≡ [] = none_written None 0 last inner within refl w in
      part f fs (step.File p k ∷ (inner ++ step.End ∷ more)) end (step.File p k ∷ s) next following out to
      (left f.file f.at last to p k inner more next is
      (subst (λ (l : List ℕ). Writes texts None 0 inner l last) none w) v) r
      (both_steps (step.File p k) s inner rest more end e d)
      (g ∙ (ap (λ (l : List ℕ). l ++ behind) none ∙ h))

  -- either of them
  fills_at : (f : Part) (fs : List Part) (p : Place) (k : ℕ) (s : List Step) (out : List ℕ) (o : Option ℕ)
      → place_in texts f.file p.event k ≡ o
      → Fills (begun_at texts f k o ++ fs) s out → Fills (f ∷ fs) (step.File p k ∷ s) (put_at texts f o ++ out)
  fills_at f fs p k s out None is h = fills_left f fs p k s out is h
  fills_at f fs p k s out (Some here) is h = fills_file f fs p k here s out is h

  -- what steps write that are all that is left
  fills : (fs : List Part) (steps : List Step) → closes (length fs) steps ≡ true → Fills fs steps (written texts fs steps)
  fills [] [] h = done
  fills [] (s ∷ steps) h = absurd (cc h)
  fills (f ∷ fs) [] h = absurd (cc h)
  fills (f ∷ fs) (step.Item p ∷ steps) h = fills_item f fs p steps _ (fills (f ∷ fs) steps h)
  fills (f ∷ fs) (step.Lack p why ∷ steps) h = fills_passed f fs p why steps _ (fills (f ∷ fs) steps h)
  fills (f ∷ fs) (step.Inline p ∷ steps) h = fills_inline f fs p steps _ (fills (inline_part f ∷ f ∷ fs) steps h)
  fills (f ∷ fs) (step.File p k ∷ steps) h =
      let o = place_in texts f.file p.event k in
      fills_at f fs p k steps _ o refl (fills (begun_at texts f k o ++ fs) steps
      (subst (λ (n : ℕ). closes n steps ≡ true) (sym (length_begun f k o fs)) h))
  fills (f ∷ fs) (step.End ∷ steps) h =
      part f fs [] steps (step.End ∷ steps) [] (written texts (around f.kind f.at fs) steps) _ f.at
      (nothing f.file f.at)
      (fills (around f.kind f.at fs) steps
      (subst (λ (n : ℕ). closes n steps ≡ true) (sym (length_around f.kind f.at fs)) h)) refl refl

  -- the root alone
  root_fills : (steps : List Step) (out : List ℕ) → Fills (root_part ∷ []) steps out → IsWhole texts steps out
  root_fills steps out (part _ _ inner rest _ within behind _ to w done e g) = record {
    inner = inner;
    front = within;
    last = to;
    are = e;
    writes = w;
    whole = g ∙ ap (λ (l : List ℕ). within ++ l) (append-nil _);
  }

  -- what is written from the root on is the whole text
  pub is_whole : (steps : List Step) (out : List ℕ) → out ≡ written texts (root_part ∷ []) steps
      → closes 1 steps ≡ true → IsWhole texts steps out
  is_whole steps out e h = subst (IsWhole texts steps) (sym e) (root_fills steps _ (fills (root_part ∷ []) steps h))
