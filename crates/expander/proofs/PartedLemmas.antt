-- The search of two lists side by side, where no call crosses their border.
use Rattle.std.proofs.Common.{◌≡◌, ℕ, zero, suc, ◌≤◌, ◌<◌, List, [], ◌∷◌, ◌++◌, refl, sym, ap, ◌∙◌, arith, Bool, true, false, ◌&&◌, inl, inr}
use Rattle.std.specs.Prelude.{Option, Some, None, ◌⊎◌, unwrap_or}
use Rattle.tt_data.specs.Forest.{Forest, empty, leaf, group, joined, size}
use Rattle.tt_data.specs.Walk.{at_leaf, walk}
use Rattle.tt_data.proofs.ForestLemmas.{joined_assoc}
use Rattle.tt_data.specs.declared.delimiter.Delimiter.{Delimiter}
use Rattle.tt_data.specs.declared.leaf.Leaf.{Leaf}
use Rattle.tt_data.specs.declared.leaf.Punct.{Punct}
use Rattle.tt_data.specs.declared.span.Span.{Span}
use Rattle.expander_model.specs.declared.call.Call.{Call}
use Rattle.expander_model.specs.declared.fault.FaultKind.{FaultKind}
use Rattle.expander_model.specs.declared.fault.FaultKind.TheVariants.{CannotExpand}
use Rattle.expander_model.specs.CallSteps.{bare_call, call_behind_colons, crate_call, call_at, key_at}
use Rattle.expander_model.specs.Calls.{Path, bare, from_crate, other, call, marked}
use Rattle.cfg_options.specs.Conditions.{or_else}
use Rattle.bridge.specs.Text.{is_char, is_visible}
use Rattle.small_grammar.specs.Text.{◌>>◌}
use Rattle.expander_model.specs.Expansion.{World, Outcome, Deeper, CallSite, placed, just, followed_by, found, grouped, fitted, unbroken, search_calls, expansion}
use Rattle.expander_session.specs.Laws.{Fails, IsParted, why_failed}
use Rattle.expander_scope.proofs.CallLemmas.{IsBare, IsBehind, IsOfCrate, is_bare, is_behind, is_of_crate, marked_bare, marked_behind, marked_of_crate}
use Rattle.expander_scope.proofs.OutcomeLemmas.{followed_assoc}
use Rattle.expander_scope.proofs.TurnLemmas.{call_passed, colons_is_call, colons_opened, colons_smaller, known_search, leaf_search, rest_smaller}

-- ---- a call that stands there is found

bare_found : (f : Forest) (c : Call) → IsBare f c → bare_call f ≡ Some c
bare_found f c b =
    ap bare_call b.is
    ∙ go (record { name = c.name; from_group = group b.brackets c.argument c.rest; argument = c.argument; rest = c.rest })
    (is_char "!" b.bang) (is_visible b.brackets.kind) b.test
    ∙ ap (λ (g : Forest). Some (record { name = c.name; from_group = g; argument = c.argument; rest = c.rest })) (sym b.group_is)
  where
    go : (x : Call) (p q : Bool) → (p && q) ≡ true → (p >> (q >> Some x)) ≡ Some x
    go x true true e = refl
    go x true false e = absurd (cc)
    go x false q e = absurd (cc)

behind_found : (f : Forest) (c : Call) → IsBehind f c → call_behind_colons f ≡ Some c
behind_found f c b =
    ap call_behind_colons b.is ∙ ap (λ (t : Bool). t >> bare_call b.after) b.colons ∙ bare_found b.after c b.call

-- ---- a call with more behind it

module _ (more : Forest) where
  -- the call that begins there then
  abbrev with_more : Call → Call
  with_more c = record { name = c.name; from_group = joined c.from_group more; argument = c.argument; rest = joined c.rest more }

  abbrev bare_more : (f : Forest) (c : Call) → IsBare f c → IsBare (joined f more) (with_more c)
  bare_more f c b = record {
    bang = b.bang;
    brackets = b.brackets;
    is = ap (λ g. joined g more) b.is;
    group_is = ap (λ g. joined g more) b.group_is;
    test = b.test;
  }

  abbrev behind_more : (f : Forest) (c : Call) → IsBehind f c → IsBehind (joined f more) (with_more c)
  behind_more f c b = record {
    first = b.first;
    second = b.second;
    after = joined b.after more;
    is = ap (λ g. joined g more) b.is;
    colons = b.colons;
    call = bare_more b.after c b.call;
  }

  abbrev crate_more : (f : Forest) (c : Call) → IsOfCrate f c → IsOfCrate (joined f more) (with_more c)
  crate_more f c b = record {
    crate = b.crate;
    after = joined b.after more;
    is = ap (λ g. joined g more) b.is;
    test = b.test;
    found = behind_found (joined b.after more) (with_more c) (behind_more b.after c b.call);
    call = behind_more b.after c b.call;
  }

-- ---- the same first step with more behind it

-- a list's marks begin with a call, and with the same when more follows
record HasMarks (front rest : Forest) (c : Call) : Type 0 where
  path : Path
  bang : Punct
  brackets : Delimiter
  alone : marked front ≡ call path c.name bang brackets (marked c.argument) (marked c.rest)
  more : marked (joined front rest) ≡ call path c.name bang brackets (marked c.argument) (marked (joined c.rest rest))

bare_marks : (front rest : Forest) (c : Call) → IsBare front c → HasMarks front rest c
bare_marks front rest c b = record {
  path = bare;
  bang = b.bang;
  brackets = b.brackets;
  alone = marked_bare front c b;
  more = marked_bare (joined front rest) (with_more rest c) (bare_more rest front c b);
}

behind_marks : (front rest : Forest) (c : Call) → IsBehind front c → HasMarks front rest c
behind_marks front rest c b = record {
  path = other b.first b.second;
  bang = b.call.bang;
  brackets = b.call.brackets;
  alone = marked_behind front c b;
  more = marked_behind (joined front rest) (with_more rest c) (behind_more rest front c b);
}

crate_marks : (front rest : Forest) (c : Call) → IsOfCrate front c → HasMarks front rest c
crate_marks front rest c b = record {
  path = from_crate b.crate b.call.first b.call.second;
  bang = b.call.call.bang;
  brackets = b.call.call.brackets;
  alone = marked_of_crate front c b;
  more = marked_of_crate (joined front rest) (with_more rest c) (crate_more rest front c b);
}

either_call : (a b : Option Call) (c : Call) → or_else a b ≡ Some c → (a ≡ Some c) ⊎ (b ≡ Some c)
either_call None b c e = inr e
either_call (Some x) b c e = inl e

call_marks : (front rest : Forest) (c : Call) → call_at front ≡ Some c → HasMarks front rest c
call_marks front rest c e = elim (either_call (crate_call front) (bare_call front) c e) [
  | inl h ↦ crate_marks front rest c (is_of_crate front c h)
  | inr h ↦ bare_marks front rest c (is_bare front c h)
]

colons_marks : (front rest : Forest) (c : Call) → call_behind_colons front ≡ Some c → HasMarks front rest c
colons_marks front rest c e = behind_marks front rest c (is_behind front c e)

-- ---- what is passed, and what is left

-- what is behind trees that were passed is parted in the same way
parted_behind : (front rest passed left : Forest) → front ≡ joined passed left → IsParted front rest → IsParted left rest
parted_behind front rest passed left is p = record {
  calls = λ a b e. p.calls (joined passed a) b (is ∙ ap (joined passed) e ∙ sym (joined_assoc passed a b));
  colons = λ a b e. p.colons (joined passed a) b (is ∙ ap (joined passed) e ∙ sym (joined_assoc passed a b));
}

colons_less : (f : Forest) (c : Call) → call_behind_colons f ≡ Some c → size c.rest < size f
colons_less f c e = omega (arith, colons_smaller f c e, ap size (colons_is_call f c e).group_is)

colons_passed : (f : Forest) (c : Call) → call_behind_colons f ≡ Some c → (w : Forest) × (f ≡ joined w c.rest)
colons_passed f c e =
    let k = colons_is_call f c e in
    let opened : (w : Forest) × (f ≡ joined w c.from_group) = colons_opened f c e in (
      joined opened.0 (group k.brackets c.argument empty),
      opened.1 ∙ ap (joined opened.0) k.group_is ∙ sym (joined_assoc opened.0 (group k.brackets c.argument empty) c.rest),
    )

module _ {D : Type 0} (world : World D) (scope : List ℕ → Option D) (deeper : Deeper D) (outer : Option Span) where
  abbrev search : Forest → Outcome D
  search f = search_calls world scope deeper outer (marked f)

  -- a list is searched in two
  abbrev IsSearched : Forest → Forest → Type 0
  IsSearched front rest = search (joined front rest) ≡ followed_by (search front) (search rest)

  -- so it is where its first step is the same without the rest
  step_searched : (front rest left : Forest) (o : Outcome D) → search front ≡ followed_by o (search left) → search (joined front rest) ≡ followed_by o (search (joined left rest))
      → IsSearched left rest → IsSearched front rest
  step_searched front rest left o alone more h =
      more ∙ ap (followed_by o) h ∙ sym (followed_assoc o (search left) (search rest)) ∙ ap (λ x. followed_by x (search rest)) (sym alone)

  marks_searched : (front rest : Forest) (c : Call) → HasMarks front rest c → IsSearched c.rest rest → IsSearched front rest
  marks_searched front rest c m h =
      step_searched front rest c.rest _ (ap (search_calls world scope deeper outer) m.alone) (ap (search_calls world scope deeper outer) m.more) h

  -- a leaf at the beginning, where lists that are smaller are searched in two
  leaf_parted : (n : ℕ) (l : Leaf) (front rest : Forest) → ((left : Forest) → size left ≤ n → IsParted left rest → IsSearched left rest) → size (leaf l front) ≤ suc n
      → IsParted (leaf l front) rest → (o : Option Call) → call_at (leaf l front) ≡ o → (q : Option Call) → call_behind_colons (leaf l front) ≡ q → IsSearched (leaf l front) rest
  leaf_parted n l front rest smaller less p (Some c) e q g =
      let w : (w : Forest) × (leaf l front ≡ joined w c.rest) = call_passed (leaf l front) c e in
      marks_searched (leaf l front) rest c (call_marks (leaf l front) rest c e)
      (smaller c.rest (omega (arith, rest_smaller (leaf l front) c e)) (parted_behind (leaf l front) rest w.0 c.rest w.1 p))
  leaf_parted n l front rest smaller less p None e (Some c) g =
      let w : (w : Forest) × (leaf l front ≡ joined w c.rest) = colons_passed (leaf l front) c g in
      marks_searched (leaf l front) rest c (colons_marks (leaf l front) rest c g)
      (smaller c.rest (omega (arith, colons_less (leaf l front) c g)) (parted_behind (leaf l front) rest w.0 c.rest w.1 p))
  leaf_parted n l front rest smaller less p None e None g =
      step_searched (leaf l front) rest front (just outer (at_leaf l ∷ []))
      (leaf_search world scope deeper outer (leaf l front) front l e g refl)
      (leaf_search world scope deeper outer (leaf l (joined front rest)) (joined front rest) l
      (p.calls empty (leaf l front) refl (λ h. cc) e) (p.colons empty (leaf l front) refl (λ h. cc) g) refl)
      (smaller front (omega arith) (parted_behind (leaf l front) rest (leaf l empty) front refl p))

  parted_within : (n : ℕ) (front rest : Forest) → size front ≤ n → IsParted front rest → IsSearched front rest
  parted_within n empty rest less p = refl
  parted_within zero (group d inner front) rest less p = absurd (omega arith)
  parted_within zero (leaf l front) rest less p = absurd (omega arith)
  parted_within (suc n) (group d inner front) rest less p =
      step_searched (group d inner front) rest front (grouped outer d (search inner)) refl refl
      (parted_within n front rest (omega arith) (parted_behind (group d inner front) rest (group d inner empty) front refl p))
  parted_within (suc n) (leaf l front) rest less p =
      leaf_parted n l front rest (λ left. parted_within n left rest) less p (call_at (leaf l front)) refl (call_behind_colons (leaf l front)) refl

  parted_search : (front rest : Forest) → IsParted front rest → IsSearched front rest
  parted_search front rest p = parted_within (size front) front rest (omega arith) p

-- ---- expansions

module _ {D : Type 0} (world : World D) (scope : List ℕ → Option D) where
  -- a list that is parted at no call is expanded part by part
  pub parted_expansion : (depth : ℕ) (outer : Option Span) (front rest : Forest) → IsParted front rest
      → expansion world scope depth outer (joined front rest) ≡ followed_by (expansion world scope depth outer front) (expansion world scope depth outer rest)
  parted_expansion zero outer front rest p = parted_search world scope None outer front rest p
  parted_expansion (suc n) outer front rest p = parted_search world scope (Some (expansion world scope n)) outer front rest p

  -- and a group inside its brackets
  pub group_expansion : (depth : ℕ) (outer : Option Span) (d : Delimiter) (inner rest : Forest)
      → expansion world scope depth outer (group d inner rest)
      ≡ followed_by (grouped outer d (expansion world scope depth outer inner)) (expansion world scope depth outer rest)
  group_expansion zero outer d inner rest = refl
  group_expansion (suc n) outer d inner rest = refl

-- ---- a failed call

-- trees that stay, with one fault
record Stays {D : Type 0} (kind : FaultKind) (outer : Option Span) (site : CallSite) (o : Outcome D) : Type 0 where
  steps : o.steps ≡ placed outer (walk site.whole)
  faults : o.faults ≡ (kind, unwrap_or outer site.at) ∷ []
  finds : o.finds ≡ []

module _ {D : Type 0} (world : World D) (d : D) (outer : Option Span) (site : CallSite) where
  stays_unfit : (deeper : Option Span → Forest → Outcome D) (o : Option Forest) → o ≡ None → Stays CannotExpand outer site (fitted deeper outer site o)
  stays_unfit deeper None e = record { steps = refl; faults = refl; finds = refl }
  stays_unfit deeper (Some g) e = absurd (cc e)

  stays_low : (broken : Bool) → Stays (why_failed broken zero) outer site (unbroken world d broken None outer site)
  stays_low true = record { steps = refl; faults = refl; finds = refl }
  stays_low false = record { steps = refl; faults = refl; finds = refl }

  stays_high : (broken : Bool) (n : ℕ) (deeper : Option Span → Forest → Outcome D) → Fails broken (suc n) (world.fit d site.argument)
      → Stays (why_failed broken (suc n)) outer site (unbroken world d broken (Some deeper) outer site)
  stays_high true n deeper h = record { steps = refl; faults = refl; finds = refl }
  stays_high false n deeper (inl e) = absurd (cc e)
  stays_high false n deeper (inr (inl e)) = absurd (cc e)
  stays_high false n deeper (inr (inr e)) =
      let s : Stays CannotExpand outer site (fitted deeper outer site (world.fit d site.argument)) = stays_unfit deeper (world.fit d site.argument) e in
      record { steps = s.steps; faults = s.faults; finds = s.finds }

module _ {D : Type 0} (world : World D) (scope : List ℕ → Option D) (outer : Option Span) (front passed : Forest) (c : Call) (d : D)
    (e : call_at (joined passed c.rest) ≡ Some c) (finds : scope (key_at (joined passed c.rest) c) ≡ Some d) where
  abbrev site : CallSite
  site = record { at = c.name.span; whole = passed; argument = c.argument }

  -- what comes of the call
  record IsFailed (depth : ℕ) : Type 0 where
    kept : Outcome D
    stays : Stays (why_failed (world.broken d) depth) outer site kept
    is : expansion world scope depth outer (joined passed c.rest) ≡ followed_by (found (key_at (joined passed c.rest) c) (Some d) kept) (expansion world scope depth outer c.rest)

  failed : (depth : ℕ) → Fails (world.broken d) depth (world.fit d c.argument) → IsFailed depth
  failed zero fails = record {
    kept = unbroken world d (world.broken d) None outer site;
    stays = stays_low world d outer site (world.broken d);
    is = known_search world scope None outer (joined passed c.rest) c d e finds passed refl;
  }
  failed (suc n) fails = record {
    kept = unbroken world d (world.broken d) (Some (expansion world scope n)) outer site;
    stays = stays_high world d outer site (world.broken d) n (expansion world scope n) fails;
    is = known_search world scope (Some (expansion world scope n)) outer (joined passed c.rest) c d e finds passed refl;
  }

  module _ (depth : ℕ) (fails : Fails (world.broken d) depth (world.fit d c.argument)) (p : IsParted front (joined passed c.rest)) where
    abbrev expanded : Forest → Outcome D
    expanded f = expansion world scope depth outer f

    in_place : expanded (joined front (joined passed c.rest)) ≡ followed_by (expanded front) (followed_by (found (key_at (joined passed c.rest) c) (Some d) (failed depth fails).kept) (expanded c.rest))
    in_place = parted_expansion world scope depth outer front (joined passed c.rest) p ∙ ap (followed_by (expanded front)) (failed depth fails).is

    pub failed_steps : (expanded (joined front (joined passed c.rest))).steps ≡ (expanded front).steps ++ (placed outer (walk passed) ++ (expanded c.rest).steps)
    failed_steps = ap (λ (o : Outcome D). o.steps) in_place ∙ ap (λ xs. (expanded front).steps ++ (xs ++ (expanded c.rest).steps)) (failed depth fails).stays.steps

    pub failed_faults : (expanded (joined front (joined passed c.rest))).faults
        ≡ (expanded front).faults ++ (why_failed (world.broken d) depth, unwrap_or outer c.name.span) ∷ (expanded c.rest).faults
    failed_faults = ap (λ (o : Outcome D). o.faults) in_place ∙ ap (λ xs. (expanded front).faults ++ (xs ++ (expanded c.rest).faults)) (failed depth fails).stays.faults

    pub failed_finds : (expanded (joined front (joined passed c.rest))).finds ≡ (expanded front).finds ++ (key_at (joined passed c.rest) c, Some d) ∷ (expanded c.rest).finds
    failed_finds =
        ap (λ (o : Outcome D). o.finds) in_place
        ∙ ap (λ xs. (expanded front).finds ++ (key_at (joined passed c.rest) c, Some d) ∷ (xs ++ (expanded c.rest).finds)) (failed depth fails).stays.finds
