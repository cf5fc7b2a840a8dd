-- Output without faults is a fixed point: expanding it again prints the same text.
use Rattle.std.proofs.Common.{◌≡◌, ℕ, ◌+◌, List, [], ◌∷◌, ◌++◌, refl, ap, ◌∙◌, sym, subst, Bool, true, false, if◌then◌else◌}
use Rattle.std.specs.Prelude.{Option, Some, None, Result, Ok, Err, not, ◌&&◌, ◌||◌, codes, filter, flat_map, map, unwrap_or}
use Rattle.small_grammar.specs.Text.{is_raw_name}
use Rattle.std.specs.List.{list_all}
use Rattle.std.specs.Str.{bytes_eq}
use Rattle.std.proofs.lemmas.Slice.Eq.{bytes_eq-Decides}
use Rattle.std.proofs.lemmas.Bool.{and_from, and_parts}
use Rattle.tt_data.specs.Forest.{Forest}
use Rattle.tt_data.specs.Walk.{Step, at_leaf, opens, closes, walk}
use Rattle.tt_data.specs.declared.edition.Edition.{Edition}
use Rattle.tt_data.specs.declared.leaf.Ident.{Ident}
use Rattle.tt_data.specs.declared.leaf.IdentIsRaw.{IdentIsRaw}
use Rattle.tt_data.specs.declared.leaf.IdentIsRaw.TheVariants as is_raw
use Rattle.tt_data.specs.declared.leaf.Leaf.{Leaf}
use Rattle.tt_data.specs.declared.leaf.Leaf.TheVariants as as_leaf
use Rattle.tt_data.specs.declared.leaf.Spacing.{Spacing}
use Rattle.mbe.specs.Grammar.{Grammar}
use Rattle.bridge.specs.declared.reading.outcome.ReadFault.{ReadFault}
use Rattle.bridge.specs.Printing as bare_printing
use Rattle.bridge.specs.Printing.{depth_after, left_out_from, print_of}
use Rattle.bridge.specs.Reading.{IsReading, TextStep, reading}
use Rattle.bridge.specs.ReadsBack.{AreReadAs, IsReadAs, PrintsAgain, ReadsBack}
use Rattle.bridge.specs.Spelling.{root_name, same_leaf, same_rawness, spelled_leaf}
use Rattle.bridge.proofs.RootLemmas.{named}
use Rattle.bridge.specs.TokenSteps.{text_reading, text_steps}
use Rattle.expander_model.specs.declared.dialect.Dialect.{Dialect}
use Rattle.expander_model.specs.declared.fault.Fault.{Fault}
use Rattle.expander_model.specs.declared.fault.FaultKind.TheVariants.{NestedDefinition}
use Rattle.expander_model.specs.Expansion.{PlacedStep, placed}
use Rattle.expander_model.specs.Faults.{comes_before, fault_at, in_order, is_definition_word, nested, place, put_in_order}
use Rattle.expander.specs.FixedPoint.{IsFixedPoint, PrintsItself}
use Rattle.expander_session.specs.Laws.{AreAllPlain, HasNoWord}
use Rattle.expander_session.specs.Layered.{layers}
use Rattle.expander_model.specs.Definitions.{Definition}
use Rattle.expander_model.specs.Meaning.{Layers, Member, ReadMeaning, faults_of, meaning_from, meaning_of, meaning_over, member_faults, members, members_in, output_of}
use Rattle.expander_session.specs.Emitting.{tokens_in}
use Rattle.expander_model.specs.Pieces.{pieces, separated}
use Rattle.expander_model.specs.Printing.{PrintedToken, bare, left_out, spelling_before, steps_of, text_of, unspelled, visible}
use Rattle.expander.proofs.ForestLemmas.{AreWalked, steps_of-placed, walked_members}
use Rattle.expander_session.proofs.PrintingLemmas.{text_is, tokens_bare, visible_bare}
use Rattle.expander.proofs.QuietLemmas.{quiet_text}
use Rattle.expander.proofs.SearchLemmas.{wordless_output}
use Rattle.expander_session.proofs.WordLemmas.{quiet_plain, quiet_separated, is_quiet}

-- ---- no fault at all

put_some : (f : Fault) (gs : List Fault) → put_in_order f gs ≡ [] → ⊥
put_some f [] e = cc
put_some f (g ∷ gs) e = go (comes_before g f) e
  where
    go : (b : Bool) → (if b then g ∷ put_in_order f gs else f ∷ g ∷ gs) ≡ [] → ⊥
    go true h = cc
    go false h = cc

pub nothing_in_order : (fs : List Fault) → in_order fs ≡ [] → fs ≡ []
nothing_in_order [] e = refl
nothing_in_order (f ∷ fs) e = absurd (put_some f (in_order fs) e)

pub nothing_parted : {X : Type 0} → (xs ys : List X) → xs ++ ys ≡ [] → (xs ≡ []) × (ys ≡ [])
nothing_parted [] ys e = (refl, e)
nothing_parted (x ∷ xs) ys e = cc

-- ---- no word among the tokens that are printed

abbrev are_quiet : List bare_printing.PrintedToken → Bool
are_quiet tokens = list_all (λ (t : bare_printing.PrintedToken). is_quiet t.step) tokens

quiet_tokens : (tokens : List PrintedToken) → nested tokens ≡ [] → are_quiet (map bare tokens) ≡ true
quiet_tokens [] e = refl
quiet_tokens (t ∷ more) e = go (quiet_tokens more) (is_definition_word t.token.step) refl e
  where
    go : (nested more ≡ [] → are_quiet (map bare more) ≡ true) → (b : Bool) → is_definition_word t.token.step ≡ b
        → map (λ (u : PrintedToken). fault_at NestedDefinition (place u.token)) (if b then t ∷ filter (λ (u : PrintedToken). is_definition_word u.token.step) more else filter (λ (u : PrintedToken). is_definition_word u.token.step) more) ≡ []
        → are_quiet (map bare (t ∷ more)) ≡ true
    go later true is none = cc
    go later false is none = and_from (is_quiet t.token.step) _ (ap not is) (later none)

-- ---- nor among those that are read of them

same_raw : (a b : IdentIsRaw) → same_rawness a b ≡ true → a ≡ b
same_raw is_raw.No is_raw.No e = refl
same_raw is_raw.Yes is_raw.Yes e = refl
same_raw is_raw.No is_raw.Yes e = cc
same_raw is_raw.Yes is_raw.No e = cc

-- a name that the root of a crate is spelled as is no keyword of definitions
quiet_root : (i : Ident) (name : List ℕ) → root_name i ≡ Some name → is_quiet (at_leaf (as_leaf.Ident (record i { sym = name }))) ≡ true
quiet_root i name h =
    by_words (not (is_raw_name i)) (bytes_eq name (codes "macro_rules")) (bytes_eq name (codes "macro")) (named i name h).word
  where
    by_words : (p q r : Bool) → (q || r) ≡ false → not ((p && q) || (p && r)) ≡ true
    by_words p true r e = absurd (cc)
    by_words p false true e = absurd (cc)
    by_words true false false e = refl
    by_words false false false e = refl

-- the word of a name hangs on its text and its rawness
same_word : (i j : Ident) → (same_rawness i.is_raw j.is_raw && bytes_eq i.sym j.sym) ≡ true
    → is_definition_word (at_leaf (as_leaf.Ident j)) ≡ is_definition_word (at_leaf (as_leaf.Ident i))
same_word i j e =
    let parts = and_parts (same_rawness i.is_raw j.is_raw) (bytes_eq i.sym j.sym) e in
    let raw : i.is_raw ≡ j.is_raw = same_raw i.is_raw j.is_raw parts.0 in
    let text : i.sym ≡ j.sym = (bytes_eq-Decides i.sym j.sym).0 parts.1 in
    sym (ap (λ (r : IdentIsRaw). is_definition_word (at_leaf (as_leaf.Ident (record i { is_raw = r })))) raw
    ∙ ap (λ (t : List ℕ). is_definition_word (at_leaf (as_leaf.Ident (record i { sym = t; is_raw = j.is_raw })))) text)

quiet_name : (i j : Ident) (o : Option (List ℕ)) → root_name i ≡ o → is_quiet (at_leaf (as_leaf.Ident i)) ≡ true
    → same_leaf (as_leaf.Ident (record i { sym = unwrap_or o i.sym })) (as_leaf.Ident j) ≡ true
    → is_quiet (at_leaf (as_leaf.Ident j)) ≡ true
quiet_name i j (Some name) h quiet e = ap not (same_word (record i { sym = name }) j e) ∙ quiet_root i name h
quiet_name i j None h quiet e = ap not (same_word i j e) ∙ quiet

quiet_leaf : (l : Leaf) (j : Ident) → is_quiet (at_leaf l) ≡ true → same_leaf (spelled_leaf l) (as_leaf.Ident j) ≡ true
    → is_quiet (at_leaf (as_leaf.Ident j)) ≡ true
quiet_leaf (as_leaf.Ident i) j quiet e = quiet_name i j (root_name i) refl quiet e
quiet_leaf (as_leaf.Punct p) j quiet e = cc
quiet_leaf (as_leaf.Literal l) j quiet e = cc

quiet_step : (spacing : Spacing) (s t : Step) → IsReadAs spacing s t → is_quiet s ≡ true → is_quiet t ≡ true
quiet_step spacing s (opens kind span) r e = refl
quiet_step spacing s (closes kind span) r e = refl
quiet_step spacing s (at_leaf (as_leaf.Punct p)) r e = refl
quiet_step spacing s (at_leaf (as_leaf.Literal l)) r e = refl
quiet_step spacing (at_leaf l) (at_leaf (as_leaf.Ident j)) r e = quiet_leaf l j e r.0
quiet_step spacing (opens kind span) (at_leaf (as_leaf.Ident j)) r e = absurd r
quiet_step spacing (closes kind span) (at_leaf (as_leaf.Ident j)) r e = absurd r

quiet_read : (depth : ℕ) (tokens : List bare_printing.PrintedToken) (steps : List Step) → AreReadAs depth tokens steps → are_quiet tokens ≡ true
    → list_all is_quiet steps ≡ true
quiet_read depth [] [] r e = refl
quiet_read depth [] (s ∷ steps) r e = absurd r
quiet_read depth (a ∷ tokens) [] r e = absurd r
quiet_read depth (a ∷ tokens) (s ∷ steps) r e =
    let parts = and_parts (is_quiet a.step) (are_quiet tokens) e in
    and_from (is_quiet s) (list_all is_quiet steps) (quiet_step _ a.step s r.0 parts.0) (quiet_read (depth_after depth a.step) tokens steps r.1 parts.1)

-- ---- nothing is left out

pub none_left_out : (n : ℕ) (xs : List PlacedStep) → left_out_from n (steps_of xs) ≡ [] → left_out spelling_before xs ≡ []
none_left_out n [] e = refl
none_left_out n (s ∷ more) e = go (none_left_out (n + 1) more) (spelling_before s.step more) e
  where
    go : (left_out_from (n + 1) (steps_of more) ≡ [] → left_out spelling_before more ≡ []) → (o : Option (List ℕ)) → bare_printing.unspelled n o ++ left_out_from (n + 1) (steps_of more) ≡ []
        → unspelled spelling_before s o ++ left_out spelling_before more ≡ []
    go later None h = cc
    go later (Some text) h = later h

-- ---- a text that is printed again

-- the text is read as these trees, of which no word begins a definition, and is printed of them, and nothing is left out
pub record IsPrintedOf (text : List ℕ) (f : Forest) : Type 0 where
  pub read : text_reading text ≡ Ok f
  pub quiet : HasNoWord f
  pub text_is : (print_of (walk f)).text ≡ text
  pub left_out_is : (print_of (walk f)).left_out ≡ []
  pub separate : separated f ≡ f

module _ (text : List ℕ) (f : Forest) (p : IsPrintedOf text f) where
  all_plain : AreAllPlain (pieces f)
  all_plain = quiet_plain f p.quiet

  abbrev here : List PlacedStep
  here = placed None (walk f)

  output_is : (given : Layers) → given.world.dialect.cfg ≡ None → (depth : ℕ) → flat_map output_of (members given depth f) ≡ here
  output_is given keeps depth = wordless_output given depth (separated f) keeps (quiet_separated f p.quiet) ∙ ap (λ g. placed None (walk g)) p.separate

  left_out_here : left_out spelling_before (visible here) ≡ []
  left_out_here =
      none_left_out 0 (visible here)
      (ap (left_out_from 0) (visible_bare here ∙ ap bare_printing.visible (steps_of-placed None (walk f))) ∙ p.left_out_is)

  text_here : text_of (tokens_in here) ≡ text
  text_here = sym (text_is here) ∙ ap (λ ss. (print_of ss).text) (steps_of-placed None (walk f)) ∙ p.text_is

  printed_itself : (grammar : Grammar) (edition : Edition) (dialect : Dialect) → dialect.cfg ≡ None → (depth : ℕ)
      → PrintsItself text (meaning_from (layers grammar edition dialect) depth (Ok f))
  printed_itself grammar edition dialect keeps depth = (
    ap (λ ss. text_of (tokens_in ss)) (output_is (layers grammar edition dialect) keeps depth) ∙ text_here,
    quiet_text (layers grammar edition dialect) depth f keeps p.quiet
        (ap (λ ss. left_out spelling_before (visible ss)) (output_is (layers grammar edition dialect) keeps depth) ∙ left_out_here),
  )

  pub fixed_point : IsFixedPoint text
  fixed_point = record {
    trees = f;
    read = p.read;
    plain = all_plain;
    again = λ grammar edition dialect keeps depth.
        subst (λ r. PrintsItself text (meaning_from (layers grammar edition dialect) depth r)) (sym p.read) (printed_itself grammar edition dialect keeps depth);
  }

-- ---- what is printed without a fault

-- what the layer below says of reading and printing
pub record ReadingLaws : Type 0 where
  pub read : (steps : List TextStep) (f : Forest) → IsReading steps f → reading steps ≡ Ok f
  pub back : (f : Forest) → ReadsBack (bare_printing.visible (walk f))
  pub again : (f : Forest) → PrintsAgain (bare_printing.visible (walk f))

module _ (laws : ReadingLaws) (given : List PlacedStep) (walked : AreWalked given) (untold : nested (tokens_in given) ≡ []) where
  abbrev steps : List Step
  steps = bare_printing.visible (walk walked.trees)

  abbrev printed_text : List ℕ
  printed_text = bare_printing.text_of (bare_printing.printed steps)

  tokens_are : map bare (tokens_in given) ≡ bare_printing.printed steps
  tokens_are = tokens_bare given ∙ ap (λ ss. bare_printing.printed (bare_printing.visible ss)) walked.is

  same_trees : (b : ReadsBack steps) (a : PrintsAgain steps) → b.forest ≡ a.forest
  same_trees b a =
      let one : reading (text_steps printed_text) ≡ Ok b.forest = laws.read (text_steps printed_text) b.forest b.reading in
      let two : reading (text_steps printed_text) ≡ Ok a.forest = laws.read (text_steps printed_text) a.forest a.reading in
      cc

  no_word : (b : ReadsBack steps) → HasNoWord b.forest
  no_word b =
      quiet_read 0 (bare_printing.printed steps) (walk b.forest) b.tokens
      (ap are_quiet (sym tokens_are) ∙ quiet_tokens (tokens_in given) untold)

  printed_of : IsPrintedOf printed_text (laws.again walked.trees).forest
  printed_of =
      let a : PrintsAgain steps = laws.again walked.trees in
      let b : ReadsBack steps = laws.back walked.trees in
      record {
        read = laws.read (text_steps printed_text) a.forest a.reading;
        quiet = subst HasNoWord_in (same_trees b a) (no_word b);
        text_is = a.text;
        left_out_is = a.left_out;
        separate = a.separate;
      }
    where
      HasNoWord_in : Forest → Type 0
      HasNoWord_in f = HasNoWord f

  pub fixed_output : IsFixedPoint (text_of (tokens_in given))
  fixed_output = subst IsFixedPoint (sym (ap bare_printing.text_of tokens_are)) (fixed_point printed_text (laws.again walked.trees).forest printed_of)

module _ (laws : ReadingLaws) (grammar : Grammar) (edition : Edition) (dialect : Dialect) (depth : ℕ) (initial : List Definition) where
  abbrev members_of : Forest → List Member
  members_of f = members_in (layers grammar edition dialect) depth initial f

  abbrev all_of : Forest → List PlacedStep
  all_of f = flat_map output_of (members_of f)

  fixed_members : (f : Forest) → faults_of (layers grammar edition dialect) (members_of f) ≡ [] → IsFixedPoint (text_of (tokens_in (all_of f)))
  fixed_members f e =
      let told : List Fault = flat_map (member_faults (layers grammar edition dialect)) (members_of f) in
      let none = nothing_parted told _ (nothing_in_order _ e) in
      let first = nothing_parted (nested (tokens_in (all_of f))) _ none.1 in
      fixed_output laws (all_of f) (walked_members (layers grammar edition dialect) depth initial (pieces f)) first.0

  pub fixed_meaning : (r : Result Forest ReadFault) (m : ReadMeaning) → meaning_over (layers grammar edition dialect) depth initial r ≡ Ok m → m.faults ≡ [] → IsFixedPoint m.text
  fixed_meaning (Err fault) m is e = cc
  fixed_meaning (Ok f) m is e =
      let same : meaning_of (layers grammar edition dialect) (members_of f) ≡ m = cc in
      subst (λ (n : ReadMeaning). IsFixedPoint n.text) same (fixed_members f (ap (λ (n : ReadMeaning). n.faults) same ∙ e))
