-- What is left to search of a list goes on tree by tree.
use Rattle.std.proofs.Common.{◌≡◌, ◌≢◌, ℕ, zero, suc, List, [], ◌∷◌, ◌++◌, refl, sym, ap, ◌∙◌, append_assoc, append-nil, arith, Bool, true, false, if◌then◌else◌}
use Rattle.std.specs.Prelude.{Option, None}
use Rattle.tt_data.specs.Forest.{Forest, empty, leaf, group, size}
use Rattle.tt_data.specs.Walk.{closes, opens}
use Rattle.tt_data.specs.declared.delimiter.Delimiter.{Delimiter}
use Rattle.tt_data.specs.declared.leaf.Ident.{Ident}
use Rattle.tt_data.specs.declared.leaf.Leaf.{Leaf}
use Rattle.tt_data.specs.declared.leaf.Punct.{Punct}
use Rattle.tt_data.specs.declared.span.Span.{Span}
use Rattle.bridge.specs.Text.{is_visible}
use Rattle.expander_model.specs.Calls.{Path, bare, from_crate, other, mark_leaf, marked, token}
use Rattle.expander_model.specs.Definitions.{Definition}
use Rattle.expander_model.specs.Expansion.{World, Outcome, just, followed_by, grouped}
use Rattle.expander_model.specs.Held.{Numbered, unnumbered}
use Rattle.expander_model.specs.PieceStates.{after_call, after_leaf, after_group}
use Rattle.expander_model.specs.Pieces.{cut}
use Rattle.expander_model.specs.Scoping.{call_site, Expander, Around, Scoped, Search, out_piece, plain_piece, kind_of, kind_in, definition_in, in_group, only, and_next, in_brackets, at_call, kept_call, search_leaf, search_list, takes_end}
use Rattle.expander_model.specs.declared.begun.Begun.{Begun}
use Rattle.expander_model.specs.declared.begun.Begun.TheVariants.{Nothing, Pound, PoundBang, Attributes, AttributesPound, Visible, Qualified, Item, Extern, Abi, Gone, Other}
use Rattle.expander_model.specs.declared.dialect.Dialect.{Dialect}
use Rattle.expander_model.specs.declared.scope_rules.ScopeRules.{ScopeRules}
use Rattle.expander_model.specs.declared.scope_rules.ScopeRules.TheVariants.{TopLevel, Rust}
use Rattle.expander_model.specs.declared.scope_rules.Standing.{Standing}
use Rattle.expander_model.specs.Limits.{Noted, noted, noted_world}
use Rattle.expander_scope.specs.Expanding.{Levels, deeper_at, noted_local, noted_scope, searched}
use Rattle.expander_scope.specs.ListsLeft.{IsAhead, IsOutAhead, Left, Open, list_left, in_list, groups_left, all_left, then_left, let_out}
use Rattle.textual_scope.specs.FromLeft.{AreOfCall, is_begun, pieces_left, trees_left}
use Rattle.textual_scope.proofs.LeftLemmas.{call_before, at_piece, at_token, at_group, at_a_call, left_nothing}
use Rattle.textual_scope.proofs.ResultLemmas.{followed_assoc, followed_by_nothing}
use Rattle.textual_scope.proofs.SizeLemmas.{enough, same_parts, within_parts}
use Rattle.expander_scope.proofs.OutcomeLemmas.{or_false, outcome_eq}

-- ---- one list

module _ (dialect : Dialect) (world : World Numbered) (scope : List ℕ → Option Numbered) (levels : Levels) where
  abbrev S : Search (Noted Numbered)
  S = searched dialect world scope levels

  abbrev deep : Option (Expander (Noted Numbered))
  deep = deeper_at dialect world scope levels

  abbrev left : Begun → Around → Forest → Scoped (Noted Numbered)
  left s around f = list_left dialect world scope levels s around f

  -- with n levels left a result is searched so
  pub scoped_is : (n : ℕ) (around : Around) (f : Forest) → noted dialect world unnumbered scope n around f ≡ searched dialect world scope (record { depth = n; limits = None }) around f
  scoped_is zero around f = refl
  scoped_is (suc n) around f = refl

  -- a list is searched as what is left of it at its beginning
  pub searched_is : (around : Around) (f : Forest) → S around f ≡ left Nothing around f
  searched_is around f =
      same_parts dialect (noted_world world) noted_local (noted_scope scope) deep (size f) S (search_list dialect (noted_world world) noted_local (noted_scope scope) deep (size f))
      (λ here g less. enough dialect (noted_world world) noted_local (noted_scope scope) deep (size f) (suc (size g)) here g less (omega arith)) around (cut f)
      (within_parts f)

  -- nothing is left
  pub left_empty : (s : Begun) (around : Around) → left s around empty ≡ only (just around.outer [])
  left_empty s around = elim (is_begun s) as (λ b. (if b then trees_left dialect (noted_world world) noted_local (noted_scope scope) S deep s around empty else pieces_left dialect (noted_world world) noted_local (noted_scope scope) S deep around empty)
      ≡ only (just around.outer [])) [ true ↦ left_nothing dialect (noted_world world) noted_local (noted_scope scope) S deep s around | false ↦ refl ]

  -- no piece that is left out or a definition begins here
  abbrev pub IsPlain : Standing → Begun → Forest → Type 0
  IsPlain standing s f = (s ≡ Nothing → IsOutAhead dialect.cfg standing f None) × (dialect.scope ≡ Rust → s ≡ Nothing → IsAhead f None)

  none_in : (r : ScopeRules) (f : Forest) → (r ≡ Rust → IsAhead f None) → (p : Forest) (ps : List Forest) → cut f ≡ p ∷ ps → definition_in r p ≡ None
  none_in TopLevel f plain p ps e = refl
  none_in Rust f plain p ps e = plain refl p ps e

  plain_in : (standing : Standing) (f : Forest) → IsOutAhead dialect.cfg standing f None → (dialect.scope ≡ Rust → IsAhead f None)
      → (p : Forest) (ps : List Forest) → cut f ≡ p ∷ ps → kind_in dialect standing p ≡ plain_piece
  plain_in standing f out plain p ps e =
      ap (λ b. if b then out_piece else kind_of (definition_in dialect.scope p)) (out p ps e)
      ∙ ap kind_of (none_in dialect.scope f plain p ps e)

  not_begun : (s : Begun) → is_begun s ≡ false → s ≡ Nothing
  not_begun Nothing e = refl
  not_begun Pound e = absurd (cc e)
  not_begun PoundBang e = absurd (cc e)
  not_begun Attributes e = absurd (cc e)
  not_begun AttributesPound e = absurd (cc e)
  not_begun Visible e = absurd (cc e)
  not_begun Qualified e = absurd (cc e)
  not_begun Item e = absurd (cc e)
  not_begun Extern e = absurd (cc e)
  not_begun Abi e = absurd (cc e)
  not_begun Gone e = absurd (cc e)
  not_begun Other e = absurd (cc e)

  trees_of_piece : (s : Begun) (around : Around) (f : Forest) → f ≢ empty → IsPlain around.standing s f → left s around f ≡ trees_left dialect (noted_world world) noted_local (noted_scope scope) S deep s around f
  trees_of_piece s around f some plain = go (is_begun s) refl
    where
      go : (b : Bool) → is_begun s ≡ b → (if b then trees_left dialect (noted_world world) noted_local (noted_scope scope) S deep s around f else pieces_left dialect (noted_world world) noted_local (noted_scope scope) S deep around f)
          ≡ trees_left dialect (noted_world world) noted_local (noted_scope scope) S deep s around f
      go true e = refl
      go false e =
          at_piece dialect (noted_world world) noted_local (noted_scope scope) S deep around f some (plain_in around.standing f (plain.0 (not_begun s e)) (λ rust. plain.1 rust (not_begun s e)))
          ∙ ap (λ t. trees_left dialect (noted_world world) noted_local (noted_scope scope) S deep t around f) (sym (not_begun s e))

  -- a leaf that begins no call
  pub left_leaf : (s : Begun) (around : Around) (l : Leaf) (rest : Forest) → IsPlain around.standing s (leaf l rest) → mark_leaf l (marked rest) ≡ token l (marked rest)
      → left s around (leaf l rest) ≡ and_next (search_leaf dialect (noted_world world) noted_local (noted_scope scope) s around l) (λ here. left (after_leaf s l) here rest) around
  left_leaf s around l rest plain h =
      trees_of_piece s around (leaf l rest) (λ e. absurd (cc e)) plain ∙ at_token dialect (noted_world world) noted_local (noted_scope scope) S deep s around l rest h

  -- a group
  pub left_group : (s : Begun) (around : Around) (d : Delimiter) (inner rest : Forest) → IsPlain around.standing s (group d inner rest)
      → left s around (group d inner rest)
      ≡ and_next (in_brackets around.outer d (S (record around { standing = in_group s d.kind around.standing }) inner)) (λ here. left (after_group s d.kind) here rest) around
  left_group s around d inner rest plain =
      trees_of_piece s around (group d inner rest) (λ e. absurd (cc e)) plain ∙ at_group dialect (noted_world world) noted_local (noted_scope scope) S deep s around d inner rest

  -- a call whose argument is this
  abbrev pub called_in : Around → Path → Ident → Punct → Delimiter → Forest → Scoped (Noted Numbered)
  called_in around path name bang d argument =
      at_call dialect (noted_world world) noted_local (noted_scope scope) deep around path name
      (call_site path name bang d argument)
      (kept_call dialect (noted_world world) noted_local (noted_scope scope) S around path name bang d argument)

  -- whether a `;` right behind it goes with it
  abbrev pub takes_in : Begun → Around → Path → Ident → Punct → Delimiter → Forest → Bool
  takes_in s around path name bang d argument = takes_end dialect (noted_world world) noted_local (noted_scope scope) deep s around path name d (call_site path name bang d argument)

  some_call : (path : Path) (name : Ident) (bang : Punct) (d : Delimiter) (inner rest : Forest) → call_before name bang d inner path rest ≢ empty
  some_call bare name bang d inner rest = λ e. absurd (cc e)
  some_call (other p q) name bang d inner rest = λ e. absurd (cc e)
  some_call (from_crate root p q) name bang d inner rest = λ e. absurd (cc e)

  pub left_call : (s : Begun) (around : Around) (path : Path) (name : Ident) (bang : Punct) (d : Delimiter) (inner rest : Forest) → AreOfCall path bang d
      → IsPlain around.standing s (call_before name bang d inner path rest)
      → left s around (call_before name bang d inner path rest)
      ≡ and_next (called_in around path name bang d inner) (λ here. left (after_call (takes_in s around path name bang d inner) s d.kind) here rest) around
  left_call s around path name bang d inner rest h plain =
      trees_of_piece s around (call_before name bang d inner path rest) (some_call path name bang d inner rest) plain
      ∙ at_a_call dialect (noted_world world) noted_local (noted_scope scope) S deep s around path name bang d inner rest h

-- ---- a list, and the lists around it

pub then_assoc : (a b : Outcome (Noted Numbered)) (l : Left) → then_left (followed_by a b) l ≡ then_left a (then_left b l)
then_assoc a b l = λ i. (followed_assoc a b l.0 i, l.1)

module _ (dialect : Dialect) (world : World Numbered) (scope : List ℕ → Option Numbered) (levels : Levels) (outer : Option Span) where
  abbrev pub here_in : Standing → List Definition → Around
  here_in standing locals = record { standing = standing; outer = outer; locals = locals }

  -- trees of a list were passed
  pub passed_in : (s t : Begun) (standing : Standing) (locals : List Definition) (f g : Forest) (a : Scoped (Noted Numbered)) (next : List Definition → Left)
      → list_left dialect world scope levels s (here_in standing locals) f ≡ and_next a (λ here. list_left dialect world scope levels t here g) (here_in standing locals)
      → in_list dialect world scope levels outer s standing locals f next ≡ then_left a.outcome (in_list dialect world scope levels outer t standing (a.defines ++ locals) g next)
  passed_in s t standing locals f g a next e =
      let b : Scoped (Noted Numbered) = list_left dialect world scope levels t (here_in standing (a.defines ++ locals)) g in
      ap (λ (x : Scoped (Noted Numbered)). then_left x.outcome (next (x.defines ++ locals))) e
      ∙ ap (λ ls. then_left (followed_by a.outcome b.outcome) (next ls)) (append_assoc b.defines a.defines locals)
      ∙ then_assoc a.outcome b.outcome (next (b.defines ++ (a.defines ++ locals)))

  grouped_is : (d : Delimiter) (a : Outcome (Noted Numbered)) → grouped outer d a
      ≡ followed_by (just outer (opens d.kind d.open_span ∷ [])) (followed_by a (just outer (closes d.kind d.close_span ∷ [])))
  grouped_is d a = outcome_eq _ _ refl (sym (append-nil a.faults)) (sym (append-nil a.finds)) (sym (or_false a.bursts))

  let_out_is : (v : Bool) (ds locals : List Definition) → (if v then [] else ds) ++ locals ≡ (if v then locals else ds ++ locals)
  let_out_is true ds locals = refl
  let_out_is false ds locals = refl

  -- a group that opens here, around which the list goes on so
  abbrev pub opened : Delimiter → Forest → Begun → Standing → List Definition → Open
  opened d rest t standing locals = record { kind = d.kind; close_span = d.close_span; behind = rest; begun = t; standing = standing; locals = locals }

  -- a group is entered: its trees are left, and then what is left behind it
  pub entered_in : (t : Begun) (standing inside : Standing) (locals : List Definition) (d : Delimiter) (inner rest : Forest) (gs : List Open)
      → (let a : Scoped (Noted Numbered) = in_brackets outer d (searched dialect world scope levels (here_in inside locals) inner) in
      then_left a.outcome (in_list dialect world scope levels outer t standing (a.defines ++ locals) rest (groups_left dialect world scope levels outer gs)))
      ≡ then_left (just outer (opens d.kind d.open_span ∷ []))
      (in_list dialect world scope levels outer Nothing inside locals inner (groups_left dialect world scope levels outer (opened d rest t standing locals ∷ gs)))
  entered_in t standing inside locals d inner rest gs =
      let a : Scoped (Noted Numbered) = searched dialect world scope levels (here_in inside locals) inner in
      let opening : Outcome (Noted Numbered) = just outer (opens d.kind d.open_span ∷ []) in
      let closing : Outcome (Noted Numbered) = just outer (closes d.kind d.close_span ∷ []) in
      let later : List Definition → Left = λ ls. in_list dialect world scope levels outer t standing ls rest (groups_left dialect world scope levels outer gs) in
      let whole : Scoped (Noted Numbered) → Left = λ x.
      then_left x.outcome (then_left closing (later (let_out d.kind locals (x.defines ++ locals)))) in
      ap (λ ls. then_left (grouped outer d a.outcome) (later ls)) (let_out_is (is_visible d.kind) a.defines locals)
      ∙ ap (λ o. then_left o (later (let_out d.kind locals (a.defines ++ locals)))) (grouped_is d a.outcome)
      ∙ then_assoc opening (followed_by a.outcome closing) (later (let_out d.kind locals (a.defines ++ locals)))
      ∙ ap (then_left opening) (then_assoc a.outcome closing (later (let_out d.kind locals (a.defines ++ locals))))
      ∙ ap (λ x. then_left opening (whole x)) (searched_is dialect world scope levels (here_in inside locals) inner)

  -- at the end of a list its group closes
  pub left_at_end : (s : Begun) (standing : Standing) (locals : List Definition) (gs : List Open)
      → in_list dialect world scope levels outer s standing locals empty (groups_left dialect world scope levels outer gs) ≡ groups_left dialect world scope levels outer gs locals
  left_at_end s standing locals gs =
      ap (λ (x : Scoped (Noted Numbered)). then_left x.outcome (groups_left dialect world scope levels outer gs (x.defines ++ locals)))
      (left_empty dialect world scope levels s (here_in standing locals))

  -- all that is left at the beginning
  pub left_at_beginning : (standing : Standing) (locals : List Definition) (f : Forest)
      → (let a : Scoped (Noted Numbered) = searched dialect world scope levels (here_in standing locals) f in (a.outcome, a.defines ++ locals))
      ≡ all_left dialect world scope levels outer (record { here = f; begun = Nothing; standing = standing; locals = locals; groups = []; outside = locals })
  left_at_beginning standing locals f =
      let a : Scoped (Noted Numbered) = list_left dialect world scope levels Nothing (here_in standing locals) f in
      ap (λ (x : Scoped (Noted Numbered)). (x.outcome, x.defines ++ locals)) (searched_is dialect world scope levels (here_in standing locals) f)
      ∙ ap (λ (o : Outcome (Noted Numbered)). (o, a.defines ++ locals)) (sym (followed_by_nothing a.outcome outer))
