-- What a call adds to the output of a search.
use Rattle.std.proofs.Common.{◌≡◌, ℕ, ◌-◌, ◌<◌, zero, suc, List, [], ◌∷◌, ◌++◌, refl, sym, ap, subst, ◌∙◌, append_assoc, append-nil, arith, Bool, true, false, if◌then◌else◌}
use Rattle.std.specs.Prelude.{map, Option, Some, None, unwrap_or, option_map, is_some, Ok, Err, not, ◌&&◌}
use Rattle.tt_data.specs.Forest.{Forest, size}
use Rattle.tt_data.specs.Walk.{Step, walk}
use Rattle.tt_data.specs.declared.leaf.Ident.{Ident}
use Rattle.tt_data.specs.declared.span.Span.{Span}
use Rattle.bridge.specs.Text.{is_visible}
use Rattle.expander_model.specs.CallSteps.{key_at}
use Rattle.expander_model.specs.Calls.{Path, bare, from_crate, other, key_of}
use Rattle.expander_model.specs.Definitions.{Definition, nearest}
use Rattle.expander_model.specs.cfg_options.Conditions.{or_else}
use Rattle.expander_model.specs.Expansion.{World, Outcome, CallSite, PlacedStep, faulted, placed, just, followed_by, bursting, stays, before_group, whole_call}
use Rattle.expander_model.specs.Held.{Numbered, unnumbered}
use Rattle.expander_model.specs.PieceStates.{after_call}
use Rattle.expander_model.specs.Scoping.{Around, Attempt, Scoped, Expander, at_call, at_key, fitted, found_at, in_brackets, is_alone_in, is_replaced, kept_call, looked_up, only, scoped, stays_in, unbroken, without_locals}
use Rattle.expander_model.specs.Limits.{calls_of, expanded, outermost, Noted, Notes, Passed, definition, limited, looked_in, note_of, noted, noted_world, sized, unnoted, until_passed, within}
use Rattle.expander_model.specs.declared.limits.Limits.{Limits}
use Rattle.expander_model.specs.declared.begun.Begun.{Begun}
use Rattle.expander_model.specs.declared.dialect.Dialect.{Dialect}
use Rattle.expander_model.specs.declared.call.Call.{Call}
use Rattle.expander_model.specs.declared.scope_rules.Standing.TheVariants.{Argument, Top}
use Rattle.expander_model.specs.declared.fault.FaultKind.{FaultKind}
use Rattle.expander_model.specs.declared.fault.FaultKind.TheVariants.{CannotExpand, BrokenDefinition, RecursionLimit, TooLarge}
use Rattle.textual_scope.proofs.NoteLemmas.{SameFrom, looked_in-append, unnoted-list, unnoted-noted}
use Rattle.expander_scope.specs.Expanding.{Levels, Adds, Expands, among_notes, answer, answer_at, as_noted, deeper_at, expander_by, makes_too_many, noted_by, noted_local, noted_scope, searched, trial, trial_at}
use Rattle.expander_scope.specs.Spending.{BurstsFirst, Spends, left_behind, notes_with, passing}
use Rattle.expander_scope.specs.ListsLeft.{IsAhead, IsOutAhead, Left, Place, all_left, groups_left, in_list, list_left, then_left}
use Rattle.expander_scope.specs.Outcomes.{find_of, parts_of}
use Rattle.expander_scope.specs.Sinks.{TakesMore}
use Rattle.expander_scope.specs.Turns.{begun_behind, broken_at, is_bare, kept_left, local_at, lookups_of, resolved}
use Rattle.expander_scope.specs.declared.outcome.Expanding.{Expanding}
use Rattle.expander_scope.proofs.ListLemmas.{IsPlain, called_in, here_in, left_call, passed_in, scoped_is, takes_in, then_assoc}
use Rattle.expander_scope.proofs.OutcomeLemmas.{or_false, or_first, or_later}
use Rattle.expander_scope.proofs.SinkLemmas.{takes_both}
use Rattle.expander_scope.proofs.SpendingLemmas.{Charged, bursts_here, bursts_note, charged_nothing, none_passed_note, passing_note, spends_note, spends_same}
use Rattle.expander_scope.proofs.TurnLemmas.{IsCall, is_open, names_alone, joined_call, visible_call}

-- look-ups and notes alone
abbrev pub looks : Notes Numbered → Outcome (Noted Numbered)
looks xs = record { steps = []; faults = []; finds = xs; bursts = false }

pub lookups_among : (xs : List (List ℕ × Option Numbered)) (ys : Notes Numbered) → looked_in (among_notes xs ++ ys) ≡ xs ++ looked_in ys
lookups_among [] ys = refl
lookups_among ((key, Some d) ∷ xs) ys = ap (λ fs. (key, Some d) ∷ fs) (lookups_among xs ys)
lookups_among ((key, None) ∷ xs) ys = ap (λ fs. (key, None) ∷ fs) (lookups_among xs ys)

-- the note of a call is no look-up
pub no_lookups : (b : Bool) (given : Option Forest) (n : ℕ) → looked_in {D = Numbered} (note_of b given n) ≡ []
no_lookups true given n = refl
no_lookups false given n = refl

-- ---- what is added

module _ {S : Type 0} (Has : S → List PlacedStep → Type 0) where
  -- one outcome after another
  pub adds_more : (old mid new : Expanding S) (a b : Outcome (Noted Numbered)) → Adds Has old mid a → Adds Has mid new b → Adds Has old new (followed_by a b)
  adds_more old mid new a b first later = record {
    steps = takes_both Has old.output mid.output new.output a.steps b.steps first.steps later.steps;
    faults = later.faults ∙ ap (λ fs. fs ++ b.faults) first.faults ∙ append_assoc old.faults.items a.faults b.faults;
    finds = later.finds ∙ ap (λ fs. fs ++ looked_in b.finds) first.finds ∙ append_assoc (map find_of old.finds.items) (looked_in a.finds) (looked_in b.finds)
        ∙ ap (λ fs. map find_of old.finds.items ++ fs) (sym (looked_in-append a.finds b.finds));
  }

  -- steps alone
  pub adds_just : (old new : Expanding S) (outer : Option Span) (steps : List Step)
      → TakesMore Has old.output new.output (placed outer steps)
      → new.faults.items ≡ old.faults.items → map find_of new.finds.items ≡ map find_of old.finds.items → Adds Has old new (just outer steps)
  adds_just old new outer steps added faults finds = record {
    steps = added;
    faults = faults ∙ sym (append-nil old.faults.items);
    finds = finds ∙ sym (append-nil (map find_of old.finds.items));
  }

  -- a fault is told, and then the call is kept
  pub adds_stays : (old mid new : Expanding S) (kind : FaultKind) (outer : Option Span) (site : CallSite) → mid.output ≡ old.output
      → mid.faults.items ≡ old.faults.items ++ (kind, unwrap_or outer site.at) ∷ [] → map find_of mid.finds.items ≡ map find_of old.finds.items
      → Adds Has mid new (just outer (walk site.whole)) → Adds Has old new (stays kind outer site)
  adds_stays old mid new kind outer site sink faults finds adds = record {
    steps = subst (λ s. TakesMore Has s new.output (placed outer (walk site.whole))) sink adds.steps;
    faults = adds.faults ∙ append-nil mid.faults.items ∙ faults;
    finds = adds.finds ∙ ap (λ s. s ++ []) finds;
  }

  -- names are looked up, and then so much is added
  pub adds_looks : (old mid new : Expanding S) (xs : List (List ℕ × Option Numbered)) (o : Outcome (Noted Numbered)) → mid.output ≡ old.output
      → mid.faults ≡ old.faults → map find_of mid.finds.items ≡ map find_of old.finds.items ++ xs
      → Adds Has mid new o → Adds Has old new (followed_by (looks (among_notes xs)) o)
  adds_looks old mid new xs o sink faults finds adds = record {
    steps = subst (λ s. TakesMore Has s new.output o.steps) sink adds.steps;
    faults = adds.faults ∙ ap (λ s. s.items ++ o.faults) faults;
    finds = adds.finds ∙ ap (λ s. s ++ looked_in o.finds) finds ∙ append_assoc (map find_of old.finds.items) xs (looked_in o.finds)
        ∙ ap (λ fs. map find_of old.finds.items ++ fs) (sym (lookups_among xs o.finds));
  }

  -- notes that are no look-ups add nothing
  pub adds_notes : (old new : Expanding S) (notes : Notes Numbered) (o : Outcome (Noted Numbered)) → looked_in notes ≡ [] → Adds Has old new o
      → Adds Has old new (followed_by (looks notes) o)
  adds_notes old new notes o none adds = record {
    steps = adds.steps;
    faults = adds.faults;
    finds = adds.finds ∙ ap (λ fs. map find_of old.finds.items ++ (fs ++ looked_in o.finds)) (sym none)
        ∙ ap (λ fs. map find_of old.finds.items ++ fs) (sym (looked_in-append notes o.finds));
  }

  -- the fault of a definition, if it is invalid, and what is shown of it
  pub adds_defined : (b : Bool) (old mid new : Expanding S) (outer : Option Span) (at : Span) (steps : List Step) → mid.output ≡ old.output
      → mid.faults.items ≡ old.faults.items ++ broken_at b at → new.faults ≡ mid.faults → mid.finds ≡ old.finds → new.finds ≡ mid.finds
      → TakesMore Has mid.output new.output (placed outer steps)
      → Adds Has old new (if b then faulted BrokenDefinition at (just outer steps) else just outer steps)
  adds_defined true old mid new outer at steps sink faults same finds looked takes = record {
    steps = subst (λ s. TakesMore Has s new.output (placed outer steps)) sink takes;
    faults = ap (λ (v : _). v.items) same ∙ faults;
    finds = ap (λ (v : _). map find_of v.items) (looked ∙ finds) ∙ sym (append-nil (map find_of old.finds.items));
  }
  adds_defined false old mid new outer at steps sink faults same finds looked takes = record {
    steps = subst (λ s. TakesMore Has s new.output (placed outer steps)) sink takes;
    faults = ap (λ (v : _). v.items) same ∙ faults;
    finds = ap (λ (v : _). map find_of v.items) (looked ∙ finds) ∙ sym (append-nil (map find_of old.finds.items));
  }

-- ---- what a definition says

and_false : (b : Bool) → (b && false) ≡ false
and_false true = refl
and_false false = refl

and_true : (b : Bool) → (b && true) ≡ b
and_true true = refl
and_true false = refl

-- look-ups are all among themselves
pub looked_among : (xs : List (List ℕ × Option Numbered)) → looked_in (among_notes xs) ≡ xs
looked_among xs = ap looked_in (sym (append-nil (among_notes xs))) ∙ lookups_among xs [] ∙ append-nil xs

-- a level is left where a result comes
pub deep : (d : Numbered) (world : World Numbered) (depth : ℕ) (argument g : Forest) → answer world d depth argument ≡ Ok g → 0 < depth
deep d world depth argument g e = go (world.broken d) depth e
  where
    go : (broken : Bool) (n : ℕ) → (if broken then Err BrokenDefinition else answer_at n (world.fit d argument)) ≡ Ok g → 0 < n
    go true n e = absurd (cc e)
    go false zero e = absurd (cc e)
    go false (suc n) e = omega arith

-- a rule fits there
fits : (d : Numbered) (world : World Numbered) (depth : ℕ) (argument g : Forest) → answer world d depth argument ≡ Ok g → (world.broken d ≡ false) × (world.fit d argument ≡ Some g)
fits d world depth argument g e = go (world.broken d) depth (world.fit d argument) e
  where
    go : (broken : Bool) (n : ℕ) (o : Option Forest) → (if broken then Err BrokenDefinition else answer_at n o) ≡ Ok g → (broken ≡ false) × (o ≡ Some g)
    go true n o e = absurd (cc e)
    go false zero o e = absurd (cc e)
    go false (suc n) None e = absurd (cc e)
    go false (suc n) (Some h) e = (refl, ap Some (let is : h ≡ g = cc e in is))

-- a call of a valid definition with a level left, whose rules give this
abbrev pub IsTried : World Numbered → Numbered → ℕ → Forest → Option Forest → Type 0
IsTried world d depth argument o = (world.broken d ≡ false) × ((world.fit d argument ≡ o) × (0 < depth))

pub tried_ok : (d : Numbered) (world : World Numbered) (depth : ℕ) (argument g : Forest) → answer world d depth argument ≡ Ok g → IsTried world d depth argument (Some g)
tried_ok d world depth argument g e =
    let (b, f) = fits d world depth argument g e in (b, (f, deep d world depth argument g e))

-- its note
pub tried_note : (d : Numbered) (world : World Numbered) (depth : ℕ) (argument : Forest) (o : Option Forest) → IsTried world d depth argument o
    → trial world d depth argument ≡ sized (calls_of o) (world.put_out d argument)
tried_note d world depth argument o is =
    ap (λ x. if x then [] else trial_at depth (world.fit d argument) (world.put_out d argument)) is.0 ∙ ap (λ x. trial_at depth x (world.put_out d argument)) is.1.0
    ∙ go depth is.1.1
  where
    go : (n : ℕ) → 0 < n → trial_at n o (world.put_out d argument) ≡ sized (calls_of o) (world.put_out d argument)
    go zero less = absurd (omega (arith, less))
    go (suc n) less = refl

-- where a limit is passed at a call, the call is one
pub tried_over : (d : Numbered) (world : World Numbered) (depth : ℕ) (argument : Forest) (l : Option Limits) → left_behind l (trial world d depth argument) ≡ None
    → IsTried world d depth argument (world.fit d argument)
tried_over d world depth argument l e = go (world.broken d) depth e
  where
    not_none : {X : Type 0} → (o : Option Limits) → left_behind o [] ≡ None → X
    not_none None h = absurd (cc h)
    not_none (Some x) h = absurd (cc h)

    go : (broken : Bool) (n : ℕ) → left_behind l (if broken then [] else trial_at n (world.fit d argument) (world.put_out d argument)) ≡ None
        → (broken ≡ false) × ((world.fit d argument ≡ world.fit d argument) × (0 < n))
    go true n h = not_none l h
    go false zero h = not_none l h
    go false (suc n) h = (refl, (refl, omega arith))

module _ (dialect : Dialect) (world : World Numbered) (scope : List ℕ → Option Numbered) (d : Numbered) (around : Around) (site : CallSite) where
  abbrev expander : Option Limits → ℕ → Option (Expander (Noted Numbered))
  expander limits depth = expander_by dialect world scope limits depth

  abbrev of_call : Bool → Option Limits → ℕ → Scoped (Noted Numbered)
  of_call broken limits depth = unbroken dialect (noted_world world) noted_local (noted_scope scope) (definition d) broken (expander limits depth) around site

  -- whether it is replaced
  abbrev replaced_at : Option Limits → ℕ → Bool
  replaced_at limits depth = is_replaced dialect (noted_world world) noted_local (noted_scope scope) (expander limits depth) (Some (definition d)) around site

  -- the surroundings of its result
  abbrev inner : Around
  inner = record around { outer = Some (unwrap_or around.outer site.at) }

  -- the search of a result, one level deeper
  abbrev pub deeper : ℕ → Forest → Scoped (Noted Numbered)
  deeper depth g = searched dialect world scope (record { depth = depth - 1; limits = None }) inner g

  abbrev pub bursts : Bool
  bursts = world.bursts d site.argument

  -- what its rules put out
  abbrev pub put : ℕ
  put = world.put_out d site.argument

  -- the notes of what it gives
  abbrev pub behind_of : ℕ → Option Forest → Notes Numbered
  behind_of depth None = []
  behind_of depth (Some g) = (deeper depth g).outcome.finds

  -- behind its note, and with what it makes of too many tokens
  abbrev pub with_note : Notes Numbered → Bool → Scoped (Noted Numbered) → Scoped (Noted Numbered)
  with_note notes b a = record a { outcome = followed_by (looks notes) (bursting b a.outcome) }

  -- with that, its look-ups as notes
  abbrev pub with_looks : Bool → Scoped Numbered → Scoped (Noted Numbered)
  with_looks b a = as_noted (record a { outcome = bursting b a.outcome })

  -- what a call is that gives this, which was searched so: where it is an outermost one by limits, its look-ups are all that is noted
  abbrev pub made_of : Option Limits → Forest → Scoped (Noted Numbered) → Scoped (Noted Numbered)
  made_of None g a = with_note (note_of bursts (Some g) put) bursts a
  made_of (Some limits) g a = with_looks bursts (unnoted a)

  -- ---- without limits

  -- what it gives in the end, where its rules give this
  abbrev given_by : ℕ → Option Forest → Scoped (Noted Numbered)
  given_by n o =
      with_note (note_of bursts o put) bursts
      (fitted dialect (noted_world world) noted_local (noted_scope scope) (noted dialect world unnumbered scope n) around site o)

  -- ---- by limits

  -- the notes of what it gives
  abbrev notes_by : ℕ → Option Forest → Notes Numbered
  notes_by n o =
      note_of bursts o put ++ (fitted dialect (noted_world world) noted_local (noted_scope scope) (noted dialect world unnumbered scope n) around site o).outcome.finds

  abbrev plainly : ℕ → Option Forest → Attempt Numbered
  plainly n o =
      let a : Scoped Numbered = fitted dialect world unnumbered scope (scoped dialect world unnumbered scope n) around site o in
      record { replaces = is_some o; given = record a { outcome = bursting bursts a.outcome } }

  -- where a limit is passed or not
  abbrev cut_at : Option (Passed Numbered) → ℕ → Option Forest → Attempt Numbered
  cut_at p n o = within p around site (plainly n o)

  abbrev passed_by : Limits → ℕ → Option Forest → Option (Passed Numbered)
  passed_by limits n o = until_passed limits.calls limits.tokens (notes_by n o)

  -- a call that gives nothing passes none if its own note does not
  nothing_passed : (limits : Limits) (n : ℕ) → passing (Some limits) (sized 0 put) ≡ None → passed_by limits n None ≡ None
  nothing_passed limits n free = none_passed_note (Some limits) bursts None put [] free

  -- what it gives is searched so
  result_noted : (n : ℕ) (g : Forest) → noted dialect world unnumbered scope n inner g ≡ deeper (suc n) g
  result_noted n g =
      let less : n ≡ suc n - 1 = omega arith in
      scoped_is dialect world scope (record { depth = n; limits = None }) n inner g
      ∙ ap (λ m. searched dialect world scope (record { depth = m; limits = None }) inner g) less

  result_plain : (n : ℕ) (g : Forest) → scoped dialect world unnumbered scope n inner g ≡ unnoted (deeper (suc n) g)
  result_plain n g = sym (unnoted-noted dialect world unnumbered scope n inner g) ∙ ap unnoted (result_noted n g)

  passed_is : (limits : Limits) (n : ℕ) (o : Option Forest) → passed_by limits n o ≡ passing (Some limits) (note_of bursts o put ++ behind_of (suc n) o)
  passed_is limits n None = refl
  passed_is limits n (Some g) = ap (λ (a : Scoped (Noted Numbered)). until_passed limits.calls limits.tokens (note_of bursts (Some g) put ++ a.outcome.finds)) (result_noted n g)

  -- ---- a call that stays

  -- a call stays with a fault, behind notes that are no look-ups, and that are spent
  pub record Stays (left rest : Option Limits) (a : Scoped (Noted Numbered)) (kind : FaultKind) : Type 0 where
    pub much : Bool
    pub notes : Notes Numbered
    pub unlooked : looked_in notes ≡ []
    pub spent : Spends left rest notes
    pub is : a ≡ only (followed_by (looks notes) (bursting much (stays_in dialect kind around site)))

  stays_plainly : (limits left rest : Option Limits) → Charged limits left rest [] → (kind' kind : FaultKind) → kind' ≡ kind → Stays left rest (only (stays_in dialect kind' around site)) kind
  stays_plainly limits left rest h kind' kind is =
      record { much = false; notes = []; unlooked = refl; spent = charged_nothing limits left rest h; is = ap (λ k. only (stays_in dialect k around site)) is }

  -- its note, where its definition is valid or not, and its rules give this
  abbrev trial_by : Bool → ℕ → Option Forest → Notes Numbered
  trial_by broken depth given = if broken then [] else trial_at depth given put

  stays_at : (broken : Bool) (limits left rest : Option Limits) (depth : ℕ) (given : Option Forest) (kind : FaultKind) → world.fit d site.argument ≡ given
      → Charged limits left rest (trial_by broken depth given)
      → (if broken then Err BrokenDefinition else answer_at depth given) ≡ Err kind → Stays left rest (of_call broken limits depth) kind
  stays_at true limits left rest depth given kind fits h e = stays_plainly limits left rest h BrokenDefinition kind (cc e)
  stays_at false limits left rest zero given kind fits h e = stays_plainly limits left rest h RecursionLimit kind (cc e)
  stays_at false None left rest (suc n) None kind fits h e =
      let is : CannotExpand ≡ kind = cc e in
      record {
        much = bursts;
        notes = note_of bursts None put;
        unlooked = no_lookups bursts None put;
        spent = subst (Spends left rest) (append-nil (note_of bursts None put)) (spends_note left rest bursts None put [] h);
        is = ap (given_by n) fits ∙ ap (λ k. only (followed_by (looks (note_of bursts None put)) (bursting bursts (stays_in dialect k around site)))) is;
      }
  stays_at false (Some limits) left rest (suc n) None kind fits h e =
      let is : CannotExpand ≡ kind = cc e in
      record {
        much = bursts;
        notes = [];
        unlooked = refl;
        spent = spends_same left rest h.1;
        is = ap (λ o. as_noted (cut_at (passed_by limits n o) n o).given) fits
            ∙ ap (λ p. as_noted (cut_at p n None).given) (nothing_passed limits n h.0)
            ∙ ap (λ k. only (followed_by (looks []) (bursting bursts (stays_in dialect k around site)))) is;
      }
  stays_at false limits left rest (suc n) (Some g) kind fits h e = absurd (cc e)

  pub stays_is : (limits left rest : Option Limits) (depth : ℕ) (kind : FaultKind) → Charged limits left rest (trial world d depth site.argument)
      → answer world d depth site.argument ≡ Err kind → Stays left rest (of_call (world.broken d) limits depth) kind
  stays_is limits left rest depth kind h e = stays_at (world.broken d) limits left rest depth (world.fit d site.argument) kind refl h e

  unreplaced_at : (limits left rest : Option Limits) (n : ℕ) (broken : Bool) (given : Option Forest) (kind : FaultKind) → world.broken d ≡ broken → world.fit d site.argument ≡ given
      → Charged limits left rest (trial_by broken n given)
      → (if broken then Err BrokenDefinition else answer_at n given) ≡ Err kind → replaced_at limits n ≡ false
  unreplaced_at limits left rest zero broken given kind b f h e = refl
  unreplaced_at None left rest (suc n) true given kind b f h e = ap (λ x. not x && is_some (world.fit d site.argument)) b
  unreplaced_at (Some limits) left rest (suc n) true given kind b f h e = ap (λ x. not x && (cut_at (passed_by limits n (world.fit d site.argument)) n (world.fit d site.argument)).replaces) b
  unreplaced_at None left rest (suc n) false None kind b f h e = ap (λ x. not x && is_some (world.fit d site.argument)) b ∙ ap is_some f
  unreplaced_at (Some limits) left rest (suc n) false None kind b f h e =
      ap (λ x. not x && (cut_at (passed_by limits n (world.fit d site.argument)) n (world.fit d site.argument)).replaces) b
      ∙ ap (λ o. (cut_at (passed_by limits n o) n o).replaces) f
      ∙ ap (λ p. (cut_at p n None).replaces) (nothing_passed limits n h.0)
  unreplaced_at limits left rest (suc n) false (Some g) kind b f h e = absurd (cc e)

  pub stays_unreplaced : (limits left rest : Option Limits) (depth : ℕ) (kind : FaultKind) → Charged limits left rest (trial world d depth site.argument)
      → answer world d depth site.argument ≡ Err kind → replaced_at limits depth ≡ false
  stays_unreplaced limits left rest depth kind h e = unreplaced_at limits left rest depth (world.broken d) (world.fit d site.argument) kind refl refl h e

  -- ---- a call whose result comes

  -- no limit is passed
  abbrev Fits : Option Limits → ℕ → Forest → Type 0
  Fits limits depth g = passing limits (notes_with put (deeper depth g).outcome.finds) ≡ None

  comes_at : (limits : Option Limits) (depth : ℕ) (g : Forest) → world.broken d ≡ false → world.fit d site.argument ≡ Some g → 0 < depth → Fits limits depth g
      → (of_call false limits depth ≡ made_of limits g (deeper depth g)) × (replaced_at limits depth ≡ true)
  comes_at limits zero g b f less free = absurd (omega (arith, less))
  comes_at None (suc n) g b f less free =
      (ap (given_by n) f ∙ ap (with_note (note_of bursts (Some g) put) bursts) (result_noted n g), ap (λ x. not x && is_some (world.fit d site.argument)) b ∙ ap is_some f)
  comes_at (Some limits) (suc n) g b f less free =
      let none : passed_by limits n (Some g) ≡ None = passed_is limits n (Some g) ∙ none_passed_note (Some limits) bursts (Some g) put (deeper (suc n) g).outcome.finds free in (
        ap (λ o. as_noted (cut_at (passed_by limits n o) n o).given) f ∙ ap (λ p. as_noted (cut_at p n (Some g)).given) none ∙ ap (with_looks bursts) (result_plain n g),
        ap (λ x. not x && (cut_at (passed_by limits n (world.fit d site.argument)) n (world.fit d site.argument)).replaces) b
            ∙ ap (λ o. (cut_at (passed_by limits n o) n o).replaces) f ∙ ap (λ p. (cut_at p n (Some g)).replaces) none,
      )

  pub comes_is : (limits : Option Limits) (depth : ℕ) (g : Forest) → answer world d depth site.argument ≡ Ok g → Fits limits depth g
      → (of_call (world.broken d) limits depth ≡ made_of limits g (deeper depth g)) × (replaced_at limits depth ≡ true)
  comes_is limits depth g e free =
      let (b, f) = fits d world depth site.argument g e in
      let is = comes_at limits depth g b f (deep d world depth site.argument g e) free in
      (ap (λ x. of_call x limits depth) b ∙ is.0, is.1)

  -- a call that makes too much stays, behind what was looked up until then
  abbrev pub too_large_with : Bool → List (List ℕ × Option Numbered) → Scoped (Noted Numbered)
  too_large_with b xs = only (followed_by (looks (among_notes xs)) (bursting b (stays TooLarge around.outer site)))

  pub record StaysLarge (limits : Option Limits) (depth : ℕ) (o : Option Forest) (xs : List (List ℕ × Option Numbered)) : Type 0 where
    pub much : Bool
    pub is : of_call (world.broken d) limits depth ≡ too_large_with much xs
    pub unreplaced : replaced_at limits depth ≡ false
    pub too : BurstsFirst limits (sized (calls_of o) put ++ behind_of depth o) → much ≡ true

  large_at : (limits : Option Limits) (depth : ℕ) (o : Option Forest) → world.broken d ≡ false → world.fit d site.argument ≡ o → 0 < depth
      → (p : Passed Numbered) → passing limits (sized (calls_of o) put ++ behind_of depth o) ≡ Some p → StaysLarge limits depth o p.finds
  large_at None depth o b f less p over = absurd (cc over)
  large_at limits zero o b f less p over = absurd (omega (arith, less))
  large_at (Some limits) (suc n) o b f less p over =
      let q = passing_note (Some limits) bursts o put (behind_of (suc n) o) p over in
      let so : passed_by limits n o ≡ Some q.0 = passed_is limits n o ∙ q.1.0 in
      record {
        much = q.0.bursts;
        is = ap (λ x. of_call x (Some limits) (suc n)) b
            ∙ ap (λ o'. as_noted (cut_at (passed_by limits n o') n o').given) f ∙ ap (λ x. as_noted (cut_at x n o).given) so
            ∙ large_is q.0.bursts q.0.finds ∙ ap (too_large_with q.0.bursts) q.1.1;
        unreplaced = ap (λ x. not x && (cut_at (passed_by limits n (world.fit d site.argument)) n (world.fit d site.argument)).replaces) b
            ∙ ap (λ o'. (cut_at (passed_by limits n o') n o').replaces) f ∙ ap (λ x. (cut_at x n o).replaces) so;
        too = λ first. bursts_note (Some limits) bursts o put (behind_of (suc n) o) first [] q.0 (ap (passing (Some limits)) (append-nil (note_of bursts o put ++ behind_of (suc n) o)) ∙ q.1.0);
      }
    where
      large_is : (t : Bool) (xs : List (List ℕ × Option Numbered)) → as_noted (let kept : Outcome Numbered = stays TooLarge around.outer site in only (record kept { finds = xs; bursts = t })) ≡ too_large_with t xs
      large_is t xs = λ i. only (record {
        steps = placed around.outer (walk site.whole);
        faults = (TooLarge, unwrap_or around.outer site.at) ∷ [];
        finds = sym (append-nil (among_notes xs)) i;
        bursts = sym (or_false t) i;
      })

  pub large_comes : (limits : Option Limits) (depth : ℕ) (o : Option Forest) → IsTried world d depth site.argument o
      → (p : Passed Numbered) → passing limits (sized (calls_of o) put ++ behind_of depth o) ≡ Some p → StaysLarge limits depth o p.finds
  large_comes limits depth o is p over = large_at limits depth o is.0 is.1.0 is.1.1 p over

  -- without limits all it gives is behind its notes
  tried_at : (depth : ℕ) (o : Option Forest) → world.broken d ≡ false → world.fit d site.argument ≡ o → 0 < depth
      → (of_call (world.broken d) None depth).outcome.finds ≡ note_of bursts o put ++ behind_of depth o
  tried_at zero o b f less = absurd (omega (arith, less))
  tried_at (suc n) o b f less = ap (λ x. (of_call x None (suc n)).outcome.finds) b ∙ ap (λ q. (given_by n q).outcome.finds) f ∙ go o
    where
      go : (q : Option Forest) → (given_by n q).outcome.finds ≡ note_of bursts q put ++ behind_of (suc n) q
      go None = refl
      go (Some g) = ap (λ (a : Scoped (Noted Numbered)). note_of bursts (Some g) put ++ a.outcome.finds) (result_noted n g)

  pub tried_is : (depth : ℕ) (o : Option Forest) → IsTried world d depth site.argument o
      → (of_call (world.broken d) None depth).outcome.finds ≡ note_of bursts o put ++ behind_of depth o
  tried_is depth o is = tried_at depth o is.0 is.1.0 is.1.1

  -- ---- too many tokens

  within_bursts : (o : Option (Passed Numbered)) (a : Attempt Numbered) → ((p : Passed Numbered) → o ≡ Some p → p.bursts ≡ true) → a.given.outcome.bursts ≡ true
      → (within o around site a).given.outcome.bursts ≡ true
  within_bursts None a h e = e
  within_bursts (Some p) a h e = h p refl

  -- where the call makes too many at once, its notes begin with that
  first_here : (l : Option Limits) (n : ℕ) (o : Option Forest) → bursts ≡ true → BurstsFirst l (notes_by n o)
  first_here l n o e =
      subst (λ b. BurstsFirst l (note_of b o put ++ (fitted dialect (noted_world world) noted_local (noted_scope scope) (noted dialect world unnumbered scope n) around site o).outcome.finds)) (sym e)
      (bursts_here l o put (fitted dialect (noted_world world) noted_local (noted_scope scope) (noted dialect world unnumbered scope n) around site o).outcome.finds)

  limited_bursts : (limits : Limits) (n : ℕ) (o : Option Forest) → bursts ≡ true → (cut_at (passed_by limits n o) n o).given.outcome.bursts ≡ true
  limited_bursts limits n o e =
      within_bursts (passed_by limits n o) (plainly n o)
      (λ p is. first_here (Some limits) n o e [] p (ap (passing (Some limits)) (append-nil (notes_by n o)) ∙ is))
      (or_first bursts _ e)

  bursts_at : (broken : Bool) (limits : Option Limits) (n : ℕ) → (not broken && bursts) ≡ true → (of_call broken limits (suc n)).outcome.bursts ≡ true
  bursts_at true limits n e = absurd (cc e)
  bursts_at false None n e = or_first _ _ e
  bursts_at false (Some limits) n e = limited_bursts limits n (world.fit d site.argument) e

  pub bursts_is : (limits : Option Limits) (depth : ℕ) → makes_too_many world d depth site.argument ≡ true → (of_call (world.broken d) limits depth).outcome.bursts ≡ true
  bursts_is limits zero e = absurd (cc e)
  bursts_is limits (suc n) e = bursts_at (world.broken d) limits n e

  -- without limits its notes begin with that
  notes_at : (broken : Bool) (n : ℕ) → (not broken && bursts) ≡ true → (l : Option Limits) → BurstsFirst l (of_call broken None (suc n)).outcome.finds
  notes_at true n e l = absurd (cc e)
  notes_at false n e l = first_here l n (world.fit d site.argument) e

  pub notes_burst : (depth : ℕ) → makes_too_many world d depth site.argument ≡ true → (l : Option Limits) → BurstsFirst l (of_call (world.broken d) None depth).outcome.finds
  notes_burst zero e l = absurd (cc e)
  notes_burst (suc n) e l = notes_at (world.broken d) n e l

  -- where its result does before a limit is passed, so does the call
  pub result_too : (limits : Option Limits) (depth : ℕ) (g : Forest) → answer world d depth site.argument ≡ Ok g → (deeper depth g).outcome.bursts ≡ true
      → BurstsFirst limits (notes_with put (deeper depth g).outcome.finds) → (of_call (world.broken d) limits depth).outcome.bursts ≡ true
  result_too limits depth g e much first = go (passing limits (notes_with put (deeper depth g).outcome.finds)) refl
    where
      made_too : (l : Option Limits) → (made_of l g (deeper depth g)).outcome.bursts ≡ true
      made_too None = or_later bursts _ much
      made_too (Some l) = or_later bursts _ much

      go : (o : Option (Passed Numbered)) → passing limits (notes_with put (deeper depth g).outcome.finds) ≡ o → (of_call (world.broken d) limits depth).outcome.bursts ≡ true
      go None is = ap (λ (a : Scoped (Noted Numbered)). a.outcome.bursts) (comes_is limits depth g e is).0 ∙ made_too limits
      go (Some p) is =
          let l : StaysLarge limits depth (Some g) p.finds = large_comes limits depth (Some g) (tried_ok d world depth site.argument g e) p is in
          ap (λ (a : Scoped (Noted Numbered)). a.outcome.bursts) l.is ∙ or_first l.much false (l.too first)

-- what a list around it answers is no look-up
pub no_lookup : (scope : List ℕ → Option Numbered) (locals : List Definition) (f : Forest) (c : Call) (d : Numbered) → Some d ≡ option_map unnumbered (local_at locals f c) → lookups_of scope locals f c ≡ []
no_lookup scope locals f c d is = go (local_at locals f c) is
  where
    go : (o : Option Definition) → Some d ≡ option_map unnumbered o
        → ◌≡◌ {A = List (List ℕ × Option Numbered)} (if is_some o then [] else (key_at f c, scope (key_at f c)) ∷ []) []
    go None is = absurd (cc is)
    go (Some x) is = refl

-- ---- what a call finds

module _ (dialect : Dialect) (world : World Numbered) (scope : List ℕ → Option Numbered) (levels : Levels) where
  module _ (around : Around) (site : CallSite) (kept : Scoped (Noted Numbered)) where
    abbrev looked : Option (Noted Numbered) → Scoped (Noted Numbered)
    looked o = looked_up dialect (noted_world world) noted_local (noted_scope scope) o (deeper_at dialect world scope levels) around site kept

    abbrev behind_looks : List (List ℕ × Option Numbered) → Scoped (Noted Numbered) → Scoped (Noted Numbered)
    behind_looks xs a = record a { outcome = followed_by (looks (among_notes xs)) a.outcome }

    by_local : (o : Option Definition) (key : List ℕ) → at_key dialect (noted_world world) noted_local (noted_scope scope) o key (deeper_at dialect world scope levels) around site kept
        ≡ behind_looks (if is_some o then [] else (key, scope key) ∷ []) (looked (option_map definition (or_else (option_map unnumbered o) (scope key))))
    by_local None key = refl
    by_local (Some d) key = refl

    by_path : (path : Path) (name : Ident) → is_open path ≡ true → (let o : Option Definition = if names_alone path then nearest around.locals name.sym else None in
        at_call dialect (noted_world world) noted_local (noted_scope scope) (deeper_at dialect world scope levels) around path name site kept
        ≡ behind_looks (if is_some o then [] else (key_of path name, scope (key_of path name)) ∷ []) (looked (option_map definition (or_else (option_map unnumbered o) (scope (key_of path name))))))
    by_path bare name e = by_local (nearest around.locals name.sym) name.sym
    by_path (from_crate root p q) name e = by_local None (key_of (from_crate root p q) name)
    by_path (other p q) name e = absurd (cc e)

  -- a call's three forms
  abbrev pub site_of : (f : Forest) (c : Call) (b : Bool) → IsCall f c b → CallSite
  site_of f c b k = record { at = c.name.span; whole = whole_call k.path c.name k.bang k.brackets c.argument; argument = c.argument }

  abbrev pub kept_of : (around : Around) (f : Forest) (c : Call) (b : Bool) → IsCall f c b → Scoped (Noted Numbered)
  kept_of around f c b k = kept_call dialect (noted_world world) noted_local (noted_scope scope) (searched dialect world scope levels) around k.path c.name k.bang k.brackets c.argument

  -- what comes of a call is what its name finds, behind its look-up
  resolved_call : (around : Around) (f : Forest) (c : Call) (k : IsCall f c true)
      → called_in dialect world scope levels around k.path c.name k.bang k.brackets c.argument
      ≡ behind_looks around (site_of f c true k) (kept_of around f c true k) (lookups_of scope around.locals f c)
      (looked around (site_of f c true k) (kept_of around f c true k) (option_map definition (resolved scope around.locals f c)))
  resolved_call around f c k =
      let site : CallSite = site_of f c true k in
      let kept : Scoped (Noted Numbered) = kept_of around f c true k in
      let at : Bool → List ℕ → Scoped (Noted Numbered) = λ b key. (
      let o : Option Definition = if b then nearest around.locals c.name.sym else None in
      behind_looks around site kept (if is_some o then [] else (key, scope key) ∷ []) (looked around site kept (option_map definition (or_else (option_map unnumbered o) (scope key))))) in
      by_path around site kept k.path c.name k.is_so
      ∙ ap (λ b. at b (key_of k.path c.name)) (sym k.alone)
      ∙ ap (at (is_bare f)) (k.key refl)

  behind_is : (gone : Bool) (s : Begun) (f : Forest) (c : Call) (b : Bool) (k : IsCall f c b) → begun_behind gone s c.from_group ≡ after_call gone s k.brackets.kind
  behind_is gone s f c b k = ap (begun_behind gone s) k.group_is

  module _ (outer : Option Span) (p : Place) (plain : IsPlain dialect world scope levels p.standing p.begun p.here) where
    abbrev around : Around
    around = here_in dialect world scope levels outer p.standing p.locals

    abbrev next : List Definition → Left
    next = groups_left dialect world scope levels outer p.groups

    -- the place behind a call, once it has defined these; `gone` tells that a `;` right behind goes with it
    abbrev pub behind_call : Bool → Call → List Definition → Place
    behind_call gone c ds = record p { here = c.rest; begun = begun_behind gone p.begun c.from_group; locals = ds ++ p.locals }

    -- whether it does
    abbrev pub takes : (c : Call) (b : Bool) → IsCall p.here c b → Bool
    takes c b k = takes_in dialect world scope levels p.begun around k.path c.name k.bang k.brackets c.argument

    -- what is left at a call: what comes of it, and what is left behind it
    call_left : (c : Call) (b : Bool) (k : IsCall p.here c b) (gone : Bool) → takes c b k ≡ gone
        → (let a : Scoped (Noted Numbered) = called_in dialect world scope levels around k.path c.name k.bang k.brackets c.argument in
        all_left dialect world scope levels outer p ≡ then_left a.outcome (all_left dialect world scope levels outer (behind_call gone c a.defines)))
    call_left c b k gone e =
        let a : Scoped (Noted Numbered) = called_in dialect world scope levels around k.path c.name k.bang k.brackets c.argument in
        let is = joined_call p.here c b k in
        passed_in dialect world scope levels outer p.begun (after_call (takes c b k) p.begun k.brackets.kind) p.standing p.locals p.here c.rest a next
        (ap (list_left dialect world scope levels p.begun around) is
        ∙ left_call dialect world scope levels p.begun around k.path c.name k.bang k.brackets c.argument c.rest k.of_call
        ((λ v. subst (λ f. IsOutAhead dialect.cfg p.standing f None) is (plain.0 v)), (λ u v. subst (λ f. IsAhead f None) is (plain.1 u v))))
        ∙ ap (λ t. then_left a.outcome (in_list dialect world scope levels outer t p.standing (a.defines ++ p.locals) c.rest next))
        (ap (λ x. after_call x p.begun k.brackets.kind) e ∙ sym (behind_is gone p.begun p.here c b k))

    visible : {c : Call} {b : Bool} → (k : IsCall p.here c b) → is_visible k.brackets.kind ≡ true
    visible k = visible_call k.path k.bang k.brackets k.of_call

    -- a call that stays is kept up to its group, which is searched as an argument
    kept_is : (c : Call) (b : Bool) (k : IsCall p.here c b) (xs : Notes Numbered)
        → (let a : Scoped (Noted Numbered) = kept_of around p.here c b k in
        then_left (followed_by (looks xs) a.outcome) (all_left dialect world scope levels outer (behind_call false c []))
        ≡ then_left (looks xs) (kept_left dialect world scope levels outer (before_group k.path c.name k.bang) c.from_group p))
    kept_is c b k xs =
        let before : Outcome (Noted Numbered) = just outer (walk (before_group k.path c.name k.bang)) in
        let a : Scoped (Noted Numbered) = searched dialect world scope levels (record around { standing = Argument }) c.argument in
        let g : Scoped (Noted Numbered) = in_brackets outer k.brackets a in
        let later : List Definition → Left = λ ls. in_list dialect world scope levels outer (after_call false p.begun k.brackets.kind) p.standing ls c.rest next in
        ap (λ t. then_left (followed_by (looks xs) (followed_by before g.outcome)) (in_list dialect world scope levels outer t p.standing p.locals c.rest next)) (behind_is false p.begun p.here c b k)
        ∙ ap (λ v. then_left (followed_by (looks xs) (followed_by before g.outcome)) (later ((if v then [] else a.defines) ++ p.locals))) (sym (visible k))
        ∙ then_assoc (looks xs) (followed_by before g.outcome) (later (g.defines ++ p.locals))
        ∙ ap (then_left (looks xs)) (then_assoc before g.outcome (later (g.defines ++ p.locals)))
        ∙ ap (λ f. then_left (looks xs) (kept_left dialect world scope levels outer (before_group k.path c.name k.bang) f p)) (sym k.group_is)

    -- what the name of a call finds
    finds_by : (path : Path) (name : Ident) → is_open path ≡ true → (let o : Option Definition = if names_alone path then nearest p.locals name.sym else None in
        found_at dialect (noted_world world) noted_local (noted_scope scope) around path name ≡ option_map definition (or_else (option_map unnumbered o) (scope (key_of path name))))
    finds_by bare name e = go (nearest p.locals name.sym)
      where
        go : (o : Option Definition) → or_else (option_map noted_local o) (noted_scope scope name.sym) ≡ option_map definition (or_else (option_map unnumbered o) (scope name.sym))
        go None = refl
        go (Some d) = refl
    finds_by (from_crate root q r) name e = refl
    finds_by (other q r) name e = absurd (cc e)

    found_is : (c : Call) (k : IsCall p.here c true) → found_at dialect (noted_world world) noted_local (noted_scope scope) around k.path c.name ≡ option_map definition (resolved scope p.locals p.here c)
    found_is c k =
        let at : Bool → List ℕ → Option (Noted Numbered) = λ b key. option_map definition (or_else (option_map unnumbered (if b then nearest p.locals c.name.sym else None)) (scope key)) in
        finds_by k.path c.name k.is_so ∙ ap (λ b. at b (key_of k.path c.name)) (sym k.alone) ∙ ap (at (is_bare p.here)) (k.key refl)

    -- it stands alone in a list of items
    abbrev pub stands_alone : (c : Call) (b : Bool) → IsCall p.here c b → Bool
    stands_alone c b k = is_alone_in dialect p.begun p.standing k.brackets

    -- a call that is not replaced takes nothing
    takes_none : (c : Call) (b : Bool) (k : IsCall p.here c b) (o : Option (Noted Numbered)) → found_at dialect (noted_world world) noted_local (noted_scope scope) around k.path c.name ≡ o
        → is_replaced dialect (noted_world world) noted_local (noted_scope scope) (deeper_at dialect world scope levels) o around (site_of p.here c b k) ≡ false → takes c b k ≡ false
    takes_none c b k o finds not_so =
        ap (λ x. stands_alone c b k && is_replaced dialect (noted_world world) noted_local (noted_scope scope) (deeper_at dialect world scope levels) x around (site_of p.here c b k)) finds
        ∙ ap (λ x. stands_alone c b k && x) not_so ∙ and_false (stands_alone c b k)

    takes_some : (c : Call) (k : IsCall p.here c true) (d : Numbered) → resolved scope p.locals p.here c ≡ Some d
        → is_replaced dialect (noted_world world) noted_local (noted_scope scope) (deeper_at dialect world scope levels) (Some (definition d)) around (site_of p.here c true k) ≡ true
        → takes c true k ≡ stands_alone c true k
    takes_some c k d finds so =
        ap (λ x. stands_alone c true k && is_replaced dialect (noted_world world) noted_local (noted_scope scope) (deeper_at dialect world scope levels) x around (site_of p.here c true k)) (found_is c k ∙ ap (option_map definition) finds)
        ∙ ap (λ x. stands_alone c true k && x) so ∙ and_true (stands_alone c true k)

    nothing_replaced : (o : Option (Expander (Noted Numbered))) (site : CallSite) → is_replaced dialect (noted_world world) noted_local (noted_scope scope) o None around site ≡ false
    nothing_replaced None site = refl
    nothing_replaced (Some expand) site = refl

    -- it finds nothing
    pub unknown_left : (c : Call) (k : IsCall p.here c true) → resolved scope p.locals p.here c ≡ None
        → all_left dialect world scope levels outer p
        ≡ then_left (looks (among_notes (lookups_of scope p.locals p.here c))) (kept_left dialect world scope levels outer (before_group k.path c.name k.bang) c.from_group p)
    unknown_left c k none =
        let kept : Scoped (Noted Numbered) = kept_of around p.here c true k in
        let xs : List (List ℕ × Option Numbered) = lookups_of scope p.locals p.here c in
        call_left c true k false (takes_none c true k None (found_is c k ∙ ap (option_map definition) none) (nothing_replaced (deeper_at dialect world scope levels) (site_of p.here c true k)))
        ∙ ap (λ (x : Scoped (Noted Numbered)). then_left x.outcome (all_left dialect world scope levels outer (behind_call false c x.defines)))
        (resolved_call around p.here c k ∙ ap (λ o. behind_looks around (site_of p.here c true k) kept xs (looked around (site_of p.here c true k) kept (option_map definition o))) none)
        ∙ kept_is c true k (among_notes xs)

    -- or it is none, for the `::` before it
    pub colons_left : (c : Call) (k : IsCall p.here c false)
        → all_left dialect world scope levels outer p ≡ kept_left dialect world scope levels outer (before_group k.path c.name k.bang) c.from_group p
    colons_left c k =
        call_left c false k false (takes_none c false k None (finds_none k.path c.name k.is_so) (nothing_replaced (deeper_at dialect world scope levels) (site_of p.here c false k)))
        ∙ ap (λ (x : Scoped (Noted Numbered)). then_left x.outcome (all_left dialect world scope levels outer (behind_call false c x.defines))) (not_open k.path c.name (site_of p.here c false k) k.is_so)
        ∙ kept_is c false k []
      where
        kept : Scoped (Noted Numbered)
        kept = kept_of around p.here c false k

        finds_none : (path : Path) (name : Ident) → is_open path ≡ false → found_at dialect (noted_world world) noted_local (noted_scope scope) around path name ≡ None
        finds_none bare name e = absurd (cc e)
        finds_none (from_crate root q r) name e = absurd (cc e)
        finds_none (other q r) name e = refl

        not_open : (path : Path) (name : Ident) (site : CallSite) → is_open path ≡ false
            → at_call dialect (noted_world world) noted_local (noted_scope scope) (deeper_at dialect world scope levels) around path name site kept ≡ kept
        not_open bare name site e = absurd (cc e)
        not_open (from_crate root p q) name site e = absurd (cc e)
        not_open (other p q) name site e = refl

    -- it finds a definition
    known_left : (c : Call) (k : IsCall p.here c true) (d : Numbered) → resolved scope p.locals p.here c ≡ Some d → (gone : Bool) → takes c true k ≡ gone → (a : Scoped (Noted Numbered))
        → unbroken dialect (noted_world world) noted_local (noted_scope scope) (definition d) (world.broken d) (deeper_at dialect world scope levels) around (site_of p.here c true k) ≡ a
        → all_left dialect world scope levels outer p
        ≡ then_left (followed_by (looks (among_notes (lookups_of scope p.locals p.here c))) a.outcome) (all_left dialect world scope levels outer (behind_call gone c a.defines))
    known_left c k d finds gone e a is =
        let kept : Scoped (Noted Numbered) = kept_of around p.here c true k in
        let xs : List (List ℕ × Option Numbered) = lookups_of scope p.locals p.here c in
        call_left c true k gone e
        ∙ ap (λ (x : Scoped (Noted Numbered)). then_left x.outcome (all_left dialect world scope levels outer (behind_call gone c x.defines)))
        (resolved_call around p.here c k ∙ ap (λ o. behind_looks around (site_of p.here c true k) kept xs (looked around (site_of p.here c true k) kept (option_map definition o))) finds
        ∙ ap (behind_looks around (site_of p.here c true k) kept xs) is)

    abbrev at_site : (c : Call) → IsCall p.here c true → CallSite
    at_site c k = site_of p.here c true k

    abbrev xs_of : Call → Notes Numbered
    xs_of c = among_notes (lookups_of scope p.locals p.here c)

    abbrev pub given_of : (c : Call) → IsCall p.here c true → Numbered → Forest → Scoped (Noted Numbered)
    given_of c k d g = deeper dialect world scope d around (at_site c k) levels.depth g

    -- what comes of a call that gives this
    abbrev pub made_here : (c : Call) → IsCall p.here c true → Numbered → Forest → Scoped (Noted Numbered)
    made_here c k d g = made_of dialect world scope d around (at_site c k) levels.limits g (given_of c k d g)

    -- and stays for a fault
    pub stays_here : (c : Call) (k : IsCall p.here c true) (d : Numbered) (kind : FaultKind) (left rest : Option Limits) → Charged levels.limits left rest (trial world d levels.depth c.argument)
        → answer world d levels.depth c.argument ≡ Err kind → Stays dialect world scope d around (at_site c k) left rest
        (unbroken dialect (noted_world world) noted_local (noted_scope scope) (definition d) (world.broken d) (deeper_at dialect world scope levels) around (at_site c k)) kind
    stays_here c k d kind left rest h says = stays_is dialect world scope d around (at_site c k) levels.limits left rest levels.depth kind h says

    pub stays_left : (c : Call) (k : IsCall p.here c true) (d : Numbered) → resolved scope p.locals p.here c ≡ Some d → (kind : FaultKind) (left rest : Option Limits) (h : Charged levels.limits left rest (trial world d levels.depth c.argument))
        → (says : answer world d levels.depth c.argument ≡ Err kind)
        → (let is = stays_here c k d kind left rest h says in all_left dialect world scope levels outer p
        ≡ then_left (followed_by (looks (xs_of c)) (followed_by (looks is.notes) (bursting is.much (stays_in dialect kind around (at_site c k)))))
        (all_left dialect world scope levels outer (behind_call false c [])))
    stays_left c k d finds kind left rest h says =
        let is = stays_here c k d kind left rest h says in
        known_left c k d finds false
        (takes_none c true k (Some (definition d)) (found_is c k ∙ ap (option_map definition) finds) (stays_unreplaced dialect world scope d around (at_site c k) levels.limits left rest levels.depth kind h says))
        (only (followed_by (looks is.notes) (bursting is.much (stays_in dialect kind around (at_site c k))))) is.is

    -- or its result comes in its place, if no limit is passed
    pub comes_left : (c : Call) (k : IsCall p.here c true) (d : Numbered) → resolved scope p.locals p.here c ≡ Some d → (g : Forest) → answer world d levels.depth c.argument ≡ Ok g
        → passing levels.limits (notes_with (world.put_out d c.argument) (given_of c k d g).outcome.finds) ≡ None
        → all_left dialect world scope levels outer p
        ≡ then_left (followed_by (looks (xs_of c)) (made_here c k d g).outcome) (all_left dialect world scope levels outer (behind_call (stands_alone c true k) c (made_here c k d g).defines))
    comes_left c k d finds g says free =
        let is = comes_is dialect world scope d around (at_site c k) levels.limits levels.depth g says free in
        known_left c k d finds (stands_alone c true k) (takes_some c k d finds is.1) (made_here c k d g) is.0

    -- or it stays, since one is passed
    abbrev pub behind_here : (c : Call) → IsCall p.here c true → Numbered → Option Forest → Notes Numbered
    behind_here c k d o = behind_of dialect world scope d around (at_site c k) levels.depth o

    pub large_here : (c : Call) (k : IsCall p.here c true) (d : Numbered) (o : Option Forest) → IsTried world d levels.depth c.argument o
        → (q : Passed Numbered) → passing levels.limits (sized (calls_of o) (world.put_out d c.argument) ++ behind_here c k d o) ≡ Some q
        → StaysLarge dialect world scope d around (at_site c k) levels.limits levels.depth o q.finds
    large_here c k d o says q over = large_comes dialect world scope d around (at_site c k) levels.limits levels.depth o says q over

    pub large_left : (c : Call) (k : IsCall p.here c true) (d : Numbered) → resolved scope p.locals p.here c ≡ Some d → (o : Option Forest) → (says : IsTried world d levels.depth c.argument o)
        → (q : Passed Numbered) → (over : passing levels.limits (sized (calls_of o) (world.put_out d c.argument) ++ behind_here c k d o) ≡ Some q)
        → all_left dialect world scope levels outer p
        ≡ then_left (followed_by (looks (xs_of c)) (too_large_with dialect world scope d around (at_site c k) (large_here c k d o says q over).much q.finds).outcome)
        (all_left dialect world scope levels outer (behind_call false c []))
    large_left c k d finds o says q over =
        let is = large_here c k d o says q over in
        known_left c k d finds false (takes_none c true k (Some (definition d)) (found_is c k ∙ ap (option_map definition) finds) is.unreplaced)
        (too_large_with dialect world scope d around (at_site c k) is.much q.finds) is.is

    abbrev pub outcome_here : (c : Call) → IsCall p.here c true → Numbered → Scoped (Noted Numbered)
    outcome_here c k d = unbroken dialect (noted_world world) noted_local (noted_scope scope) (definition d) (world.broken d) (deeper_at dialect world scope levels) around (at_site c k)

    -- what is left there, whatever comes of it
    any_left : (c : Call) (k : IsCall p.here c true) (d : Numbered) → resolved scope p.locals p.here c ≡ Some d
        → all_left dialect world scope levels outer p ≡ then_left (followed_by (looks (xs_of c)) (outcome_here c k d).outcome) (all_left dialect world scope levels outer (behind_call (takes c true k) c (outcome_here c k d).defines))
    any_left c k d finds = known_left c k d finds (takes c true k) refl (outcome_here c k d) refl

    call_bursts : (c : Call) (k : IsCall p.here c true) (d : Numbered) → resolved scope p.locals p.here c ≡ Some d → (outcome_here c k d).outcome.bursts ≡ true → (all_left dialect world scope levels outer p).0.bursts ≡ true
    call_bursts c k d finds much = ap (λ (l : Left). l.0.bursts) (any_left c k d finds) ∙ or_first _ _ much

    -- where the call makes too many tokens, the whole does
    pub answer_bursts : (c : Call) (k : IsCall p.here c true) (d : Numbered) → resolved scope p.locals p.here c ≡ Some d → makes_too_many world d levels.depth c.argument ≡ true
        → (all_left dialect world scope levels outer p).0.bursts ≡ true
    answer_bursts c k d finds much = call_bursts c k d finds (bursts_is dialect world scope d around (at_site c k) levels.limits levels.depth much)

    pub result_bursts : (c : Call) (k : IsCall p.here c true) (d : Numbered) → resolved scope p.locals p.here c ≡ Some d → (g : Forest) → answer world d levels.depth c.argument ≡ Ok g
        → (given_of c k d g).outcome.bursts ≡ true → BurstsFirst levels.limits (notes_with (world.put_out d c.argument) (given_of c k d g).outcome.finds)
        → (all_left dialect world scope levels outer p).0.bursts ≡ true
    result_bursts c k d finds g says much first = call_bursts c k d finds (result_too dialect world scope d around (at_site c k) levels.limits levels.depth g says much first)

    -- in a result, where the notes of the call begin with too many tokens, so do all behind its look-ups
    pub finds_left : (c : Call) (k : IsCall p.here c true) (d : Numbered) → resolved scope p.locals p.here c ≡ Some d
        → (all_left dialect world scope levels outer p).0.finds
        ≡ (xs_of c ++ (outcome_here c k d).outcome.finds) ++ (all_left dialect world scope levels outer (behind_call (takes c true k) c (outcome_here c k d).defines)).0.finds
    finds_left c k d finds = ap (λ (l : Left). l.0.finds) (any_left c k d finds)

    pub answer_first : (c : Call) (k : IsCall p.here c true) (d : Numbered) → levels.limits ≡ None → makes_too_many world d levels.depth c.argument ≡ true → (l : Option Limits)
        → BurstsFirst l (outcome_here c k d).outcome.finds
    answer_first c k d inside much l =
        subst (λ o. BurstsFirst l (unbroken dialect (noted_world world) noted_local (noted_scope scope) (definition d) (world.broken d) (expander_by dialect world scope o levels.depth) around (at_site c k)).outcome.finds)
        (sym inside) (notes_burst dialect world scope d around (at_site c k) levels.depth much l)

    -- the notes of a call in a result
    pub result_finds : (c : Call) (k : IsCall p.here c true) (d : Numbered) (o : Option Forest) → IsTried world d levels.depth c.argument o → levels.limits ≡ None
        → (outcome_here c k d).outcome.finds ≡ note_of (world.bursts d c.argument) o (world.put_out d c.argument) ++ behind_here c k d o
    result_finds c k d o says inside =
        ap (λ l. (unbroken dialect (noted_world world) noted_local (noted_scope scope) (definition d) (world.broken d) (expander_by dialect world scope l levels.depth) around (at_site c k)).outcome.finds) inside
        ∙ tried_is dialect world scope d around (at_site c k) levels.depth o says

-- ---- a whole tree

module _ (world : World Numbered) (scope : List ℕ → Option Numbered) (depth : ℕ) (tree : Forest) where
  abbrev whole : Outcome Numbered
  whole = expanded world unnumbered scope depth tree

  abbrev whole_levels : Option Limits → Levels
  whole_levels limits = record { depth = depth; limits = limits }

  abbrev found_whole : Outcome (Noted Numbered)
  found_whole = (searched world.dialect world scope (whole_levels world.dialect.limits) (without_locals Top None) tree).outcome

  -- an expander by limits, without notes
  noted_alike : (expand : Expander Numbered) → SameFrom (noted_by expand) expand
  noted_alike expand d around site = let a : Attempt Numbered = expand d around site in λ i. record {
    replaces = a.replaces;
    given = record {
      outcome = record {
        steps = a.given.outcome.steps;
        faults = a.given.outcome.faults;
        finds = looked_among a.given.outcome.finds i;
        bursts = a.given.outcome.bursts;
      };
      defines = a.given.defines;
    };
  }

  unnoted_by : (limits : Option Limits) (n : ℕ) → outermost world.dialect world unnumbered scope limits n (without_locals Top None) tree
      ≡ unnoted (searched world.dialect world scope (record { depth = n; limits = limits }) (without_locals Top None) tree)
  unnoted_by None n =
      sym (unnoted-noted world.dialect world unnumbered scope n (without_locals Top None) tree)
      ∙ ap unnoted (scoped_is world.dialect world scope (record { depth = n; limits = None }) n (without_locals Top None) tree)
  unnoted_by (Some limits) zero = sym (unnoted-list world.dialect world unnumbered scope None None tt (suc (size tree)) (without_locals Top None) tree)
  unnoted_by (Some limits) (suc n) =
      let expand : Expander Numbered = limited world.dialect world unnumbered scope limits n in
      sym (unnoted-list world.dialect world unnumbered scope (Some (noted_by expand)) (Some expand) (noted_alike expand) (suc (size tree)) (without_locals Top None) tree)

  whole_searched : whole ≡ (unnoted (searched world.dialect world scope (whole_levels world.dialect.limits) (without_locals Top None) tree)).outcome
  whole_searched = ap (λ (a : Scoped Numbered). a.outcome) (unnoted_by world.dialect.limits depth)

  -- all was added to what had no faults and no look-ups
  pub piece_expands : {S : Type 0} (Has : S → List PlacedStep → Type 0) (old new : Expanding S) → old.faults.items ≡ [] → old.finds.items ≡ []
      → Adds Has old new found_whole → Expands Has old.output new whole
  piece_expands Has old new no_faults no_finds adds =
      subst (Expands Has old.output new) (sym whole_searched) (record {
        steps = adds.steps;
        faults = adds.faults ∙ ap (λ l. l ++ found_whole.faults) no_faults;
        finds = adds.finds ∙ ap (λ l. map find_of l ++ looked_in found_whole.finds) no_finds;
      })

  pub piece_bursts : found_whole.bursts ≡ true → whole.bursts ≡ true
  piece_bursts much = ap (λ (o : Outcome Numbered). o.bursts) whole_searched ∙ much

  -- a tree without calls stays as it is
  pub quiet_parts : outermost world.dialect world unnumbered scope world.dialect.limits depth (without_locals Top None) tree ≡ only (just None (walk tree))
      → record { steps = placed None (walk tree); faults = []; finds = [] } ≡ parts_of whole
  quiet_parts e = ap (λ (a : Scoped Numbered). parts_of a.outcome) (sym e)
