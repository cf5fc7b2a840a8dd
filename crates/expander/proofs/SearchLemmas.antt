-- What the search for calls leaves unchanged.
use Rattle.std.proofs.Common.{◌≡◌, ℕ, zero, suc, List, [], ◌∷◌, ◌++◌, refl, sym, ap, ◌∙◌, append_assoc, Bool, true, false, inl, inr}
use Rattle.std.specs.Prelude.{All, Option, Some, None, is_none, ◌||◌, flat_map, map}
use Rattle.std.specs.List.{list_all}
use Rattle.std.proofs.lemmas.List.{map-append}
use Rattle.std.proofs.lemmas.Bool.{and_parts}
use Rattle.std.proofs.lemmas.List.Elements.{All-cons, All-head, All-nil, All-tail}
use Rattle.std.proofs.lemmas.List.Folds.{list_all-append}
use Rattle.tt_data.specs.Forest.{Forest, leaf, group, joined}
use Rattle.tt_data.specs.Walk.{Step, at_leaf, opens, closes, walk}
use Rattle.tt_data.proofs.ForestLemmas.{walk-joined}
use Rattle.tt_data.specs.declared.delimiter.Delimiter.{Delimiter}
use Rattle.tt_data.specs.declared.leaf.Ident.{Ident}
use Rattle.tt_data.specs.declared.leaf.Leaf.TheVariants as as_leaf
use Rattle.tt_data.specs.declared.leaf.Punct.{Punct}
use Rattle.tt_data.specs.declared.span.Span.{Span}
use Rattle.expander_model.specs.declared.call.Call.{Call}
use Rattle.expander_model.specs.Definitions.{Definition}
use Rattle.expander_model.specs.CallSteps.{call_at, key_at}
use Rattle.expander_model.specs.Calls.{Path, bare, from_crate, other, Marked, none, token, inside, call, marked, unmarked, in_front}
use Rattle.expander_model.specs.Definitions.{definition_of}
use Rattle.expander_model.specs.Expansion.{World, Outcome, Deeper, CallSite, placed, just, followed_by, grouped, fitted, unbroken, at_call, before_group, search_calls, expansion}
use Rattle.expander_model.specs.Faults.{fault_at}
use Rattle.expander_session.specs.Laws.{Fails, AreAllPlain, HasNoWord}
use Rattle.expander_model.specs.Meaning.{Layers, members_after, output_of, member_faults}
use Rattle.expander_model.specs.Pieces.{cut, put_together}
use Rattle.expander_model.specs.Scoping.{found_in, Scoped}
use Rattle.expander_model.specs.Limits.{expanded}
use Rattle.expander_model.specs.declared.scope_rules.ScopeRules.TheVariants.{TopLevel, Rust}
use Rattle.expander_scope.specs.textual_scope.Keywords.{HasNoKeyword}
use Rattle.expander_model.proofs.SplittingLemmas.{put_together-cut}
use Rattle.expander_scope.proofs.MarkLemmas.{unmarked-marked}
use Rattle.expander_scope.proofs.TurnLemmas.{known_search}
use Rattle.expander_session.proofs.WordLemmas.{is_quiet, quiet_cut}
use Rattle.expander_scope.proofs.RuleLemmas.{unfound_outermost}

-- ---- a failed call

module _ {D : Type 0} (world : World D) (d : D) (outer : Option Span) (site : CallSite) where
  at_no_level : (broken : Bool) → (unbroken world d broken None outer site).steps ≡ placed outer (walk site.whole)
  at_no_level true = refl
  at_no_level false = refl

  unfit : (deeper : Option Span → Forest → Outcome D) (o : Option Forest) → o ≡ None → (fitted deeper outer site o).steps ≡ placed outer (walk site.whole)
  unfit deeper None e = refl
  unfit deeper (Some g) e = cc

  at_a_level : (broken : Bool) (n : ℕ) (deeper : Option Span → Forest → Outcome D) → Fails broken (suc n) (world.fit d site.argument)
      → (unbroken world d broken (Some deeper) outer site).steps ≡ placed outer (walk site.whole)
  at_a_level true n deeper h = refl
  at_a_level false n deeper (inl e) = cc
  at_a_level false n deeper (inr (inl e)) = cc
  at_a_level false n deeper (inr (inr e)) = unfit deeper (world.fit d site.argument) e

module _ {D : Type 0} (world : World D) (scope : List ℕ → Option D) (outer : Option Span) (f passed : Forest) (c : Call) (d : D)
    (e : call_at f ≡ Some c) (finds : scope (key_at f c) ≡ Some d) (is : f ≡ joined passed c.rest) where
  failed : (deeper : Deeper D) → (unbroken world d (world.broken d) deeper outer (record { at = c.name.span; whole = passed; argument = c.argument })).steps ≡ placed outer (walk passed)
      → (search_calls world scope deeper outer (marked f)).steps ≡ placed outer (walk passed) ++ (search_calls world scope deeper outer (marked c.rest)).steps
  failed deeper stays =
      ap (λ (o : Outcome D). o.steps) (known_search world scope deeper outer f c d e finds passed is)
      ∙ ap (λ s. s ++ (search_calls world scope deeper outer (marked c.rest)).steps) stays

  pub failed_call_stays : (depth : ℕ) → Fails (world.broken d) depth (world.fit d c.argument)
      → (expansion world scope depth outer f).steps ≡ placed outer (walk passed) ++ (expansion world scope depth outer c.rest).steps
  failed_call_stays zero fails = failed None (at_no_level world d outer (record { at = c.name.span; whole = passed; argument = c.argument }) (world.broken d))
  failed_call_stays (suc n) fails =
      failed (Some (expansion world scope n))
      (at_a_level world d outer (record { at = c.name.span; whole = passed; argument = c.argument }) (world.broken d) n (expansion world scope n) fails)

-- ---- where no name finds a definition

-- these steps are put out, no fault is told, and no call makes too many tokens
pub record IsQuiet {D : Type 0} (outer : Option Span) (steps : List Step) (o : Outcome D) : Type 0 where
  pub put_out : o.steps ≡ placed outer steps
  pub untold : o.faults ≡ []
  pub small : o.bursts ≡ false

neither : (a b : Bool) → a ≡ false → b ≡ false → (a || b) ≡ false
neither false b p q = q
neither true b p q = cc

module _ {D : Type 0} (outer : Option Span) where
  quiet_just : (xs : List Step) → IsQuiet {D = D} outer xs (just outer xs)
  quiet_just xs = record { put_out = refl; untold = refl; small = refl }

  quiet_more : (xs ys : List Step) (a b : Outcome D) → IsQuiet outer xs a → IsQuiet outer ys b → IsQuiet outer (xs ++ ys) (followed_by a b)
  quiet_more xs ys a b p q = record {
    put_out = ap (λ s. s ++ b.steps) p.put_out ∙ ap (λ s. placed outer xs ++ s) q.put_out ∙ sym (map-append (λ s. record { step = s; outer = outer }) xs ys);
    untold = ap (λ fs. fs ++ b.faults) p.untold ∙ q.untold;
    small = neither a.bursts b.bursts p.small q.small;
  }

  quiet_group : (d : Delimiter) (xs : List Step) (a : Outcome D) → IsQuiet outer xs a
      → IsQuiet outer (opens d.kind d.open_span ∷ (xs ++ (closes d.kind d.close_span ∷ []))) (grouped outer d a)
  quiet_group d xs a p = record {
    put_out = ap (λ s. record { step = opens d.kind d.open_span; outer = outer } ∷ s)
        (ap (λ s. s ++ placed outer (closes d.kind d.close_span ∷ [])) p.put_out ∙ sym (map-append (λ s. record { step = s; outer = outer }) xs (closes d.kind d.close_span ∷ [])));
    untold = p.untold;
    small = p.small;
  }

  quiet_if : (xs ys : List Step) (a : Outcome D) → xs ≡ ys → IsQuiet outer xs a → IsQuiet outer ys a
  quiet_if xs ys a e p = record { put_out = p.put_out ∙ ap (placed outer) e; untold = p.untold; small = p.small }

call-walk : (path : Path) (name : Ident) (bang : Punct) (d : Delimiter) (a rest : Forest)
    → (walk (before_group path name bang) ++ (opens d.kind d.open_span ∷ (walk a ++ (closes d.kind d.close_span ∷ [])))) ++ walk rest
    ≡ walk (in_front path (leaf (as_leaf.Ident name) (leaf (as_leaf.Punct bang) (group d a rest))))
call-walk path name bang d a rest = in_path path
  where
    in_group : at_leaf (as_leaf.Ident name) ∷ at_leaf (as_leaf.Punct bang) ∷ opens d.kind d.open_span ∷ ((walk a ++ (closes d.kind d.close_span ∷ [])) ++ walk rest)
        ≡ walk (leaf (as_leaf.Ident name) (leaf (as_leaf.Punct bang) (group d a rest)))
    in_group = ap (λ s. at_leaf (as_leaf.Ident name) ∷ at_leaf (as_leaf.Punct bang) ∷ opens d.kind d.open_span ∷ s) (append_assoc (walk a) (closes d.kind d.close_span ∷ []) (walk rest))

    in_path : (p : Path) → (walk (before_group p name bang) ++ (opens d.kind d.open_span ∷ (walk a ++ (closes d.kind d.close_span ∷ [])))) ++ walk rest
        ≡ walk (in_front p (leaf (as_leaf.Ident name) (leaf (as_leaf.Punct bang) (group d a rest))))
    in_path bare = in_group
    in_path (from_crate crate p q) = ap (λ s. at_leaf (as_leaf.Ident crate) ∷ at_leaf (as_leaf.Punct p) ∷ at_leaf (as_leaf.Punct q) ∷ s) in_group
    in_path (other p q) = ap (λ s. at_leaf (as_leaf.Punct p) ∷ at_leaf (as_leaf.Punct q) ∷ s) in_group

module _ {D : Type 0} (world : World D) (deeper : Deeper D) (outer : Option Span) where
  quiet_call : (path : Path) (name : Ident) (site : CallSite) (xs : List Step) (kept : Outcome D) → IsQuiet outer xs kept
      → IsQuiet outer xs (at_call world (λ name. None) deeper outer path name site kept)
  quiet_call bare name site xs kept q = record { put_out = q.put_out; untold = q.untold; small = q.small }
  quiet_call (from_crate crate p s) name site xs kept q = record { put_out = q.put_out; untold = q.untold; small = q.small }
  quiet_call (other p s) name site xs kept q = q

  quiet_search : (m : Marked) → IsQuiet outer (walk (unmarked m)) (search_calls world (λ name. None) deeper outer m)
  quiet_search none = quiet_just outer []
  quiet_search (token l rest) = quiet_more outer (at_leaf l ∷ []) (walk (unmarked rest)) _ _ (quiet_just outer (at_leaf l ∷ [])) (quiet_search rest)
  quiet_search (inside d a rest) =
      quiet_if outer _ _ _ (ap (λ s. opens d.kind d.open_span ∷ s) (append_assoc (walk (unmarked a)) (closes d.kind d.close_span ∷ []) (walk (unmarked rest))))
      (quiet_more outer (opens d.kind d.open_span ∷ (walk (unmarked a) ++ (closes d.kind d.close_span ∷ []))) (walk (unmarked rest)) _ _
      (quiet_group outer d (walk (unmarked a)) _ (quiet_search a)) (quiet_search rest))
  quiet_search (call path name bang d a rest) =
      quiet_if outer _ _ _ (call-walk path name bang d (unmarked a) (unmarked rest))
      (quiet_more outer _ (walk (unmarked rest)) _ _
      (quiet_call path name _ _ _
      (quiet_more outer (walk (before_group path name bang)) _ _ _ (quiet_just outer (walk (before_group path name bang))) (quiet_group outer d (walk (unmarked a)) _ (quiet_search a))))
      (quiet_search rest))

quiet_expansion : {D : Type 0} → (world : World D) (depth : ℕ) (outer : Option Span) (f : Forest) → IsQuiet outer (walk f) (expansion world (λ name. None) depth outer f)
quiet_expansion world zero outer f = quiet_if outer _ _ _ (ap walk (unmarked-marked f)) (quiet_search world None outer (marked f))
quiet_expansion world (suc n) outer f = quiet_if outer _ _ _ (ap walk (unmarked-marked f)) (quiet_search world (Some (expansion world (λ name. None) n)) outer (marked f))

-- ---- pieces of which none is a definition

is_plain : (d : Option Definition) → is_none d ≡ true → d ≡ None
is_plain None e = refl
is_plain (Some d) e = cc

-- a piece is expanded as where no name finds a definition, and no list has one
abbrev IsBare : Layers → ℕ → Forest → Type 0
IsBare layers depth p =
    expanded layers.world (λ d. d) (found_in layers.world.dialect []) depth p ≡ expansion layers.world (λ name. None) depth None p

module _ (layers : Layers) (depth : ℕ) where
  quiet_steps : (ps : List Forest) → AreAllPlain ps → All (IsBare layers depth) ps
      → flat_map output_of (members_after layers depth [] ps) ≡ placed None (walk (put_together ps))
  quiet_steps [] h each = refl
  quiet_steps (p ∷ ps) h each =
      let plain = and_parts (is_none (definition_of p)) _ h in
      rw (is_plain (definition_of p) plain.0)
      (ap (λ (o : Outcome Definition). o.steps ++ flat_map output_of (members_after layers depth [] ps)) (All-head (IsBare layers depth) p ps each)
      ∙ ap (λ s. s ++ flat_map output_of (members_after layers depth [] ps)) (quiet_expansion layers.world depth None p).put_out
      ∙ ap (λ s. placed None (walk p) ++ s) (quiet_steps ps plain.1 (All-tail (IsBare layers depth) p ps each))
      ∙ sym (map-append (λ s. record { step = s; outer = None }) (walk p) (walk (put_together ps)))
      ∙ ap (placed None) (sym (walk-joined p (put_together ps))))

  quiet_faults : (ps : List Forest) → AreAllPlain ps → All (IsBare layers depth) ps → flat_map (member_faults layers) (members_after layers depth [] ps) ≡ []
  quiet_faults [] h each = refl
  quiet_faults (p ∷ ps) h each =
      let plain = and_parts (is_none (definition_of p)) _ h in
      rw (is_plain (definition_of p) plain.0)
      (ap (λ (o : Outcome Definition). map (λ f. fault_at f.0 f.1) o.faults ++ flat_map (member_faults layers) (members_after layers depth [] ps))
      (All-head (IsBare layers depth) p ps each)
      ∙ ap (λ fs. map (λ f. fault_at f.0 f.1) fs ++ flat_map (member_faults layers) (members_after layers depth [] ps)) (quiet_expansion layers.world depth None p).untold
      ∙ quiet_faults ps plain.1 (All-tail (IsBare layers depth) p ps each))

  -- a piece that by the scope rules has no definition inside
  bare_by : layers.world.dialect.cfg ≡ None → (p : Forest) → (layers.world.dialect.scope ≡ Rust → HasNoKeyword p) → IsBare layers depth p
  bare_by whole p h = ap (λ (a : Scoped Definition). a.outcome) (unfound_outermost layers.world (λ d. d) layers.world.dialect.limits depth p layers.world.dialect whole h)

  -- where a name finds pieces of texts alone
  plainly_bare : layers.world.dialect.scope ≡ TopLevel → layers.world.dialect.cfg ≡ None → (ps : List Forest) → All (IsBare layers depth) ps
  plainly_bare is whole [] = All-nil (IsBare layers depth)
  plainly_bare is whole (p ∷ ps) =
      All-cons (IsBare layers depth) p ps (bare_by whole p (λ rust. absurd (let both : TopLevel ≡ Rust = sym is ∙ rust in cc both))) (plainly_bare is whole ps)

  pub plain_output : (f : Forest) → layers.world.dialect.scope ≡ TopLevel → layers.world.dialect.cfg ≡ None → AreAllPlain (cut f)
      → flat_map output_of (members_after layers depth [] (cut f)) ≡ placed None (walk f)
  plain_output f is whole h = quiet_steps (cut f) h (plainly_bare is whole (cut f)) ∙ ap (λ g. placed None (walk g)) (put_together-cut f)

  pub plain_faults : (f : Forest) → layers.world.dialect.scope ≡ TopLevel → layers.world.dialect.cfg ≡ None → AreAllPlain (cut f)
      → flat_map (member_faults layers) (members_after layers depth [] (cut f)) ≡ []
  plain_faults f is whole h = quiet_faults (cut f) h (plainly_bare is whole (cut f))

  -- without a definition keyword, by whatever dialect
  wordless_bare : layers.world.dialect.cfg ≡ None → (ps : List Forest) → HasNoWord (put_together ps) → All (IsBare layers depth) ps
  wordless_bare whole [] h = All-nil (IsBare layers depth)
  wordless_bare whole (p ∷ ps) h =
      let parts = and_parts (list_all is_quiet (walk p)) (list_all is_quiet (walk (put_together ps)))
      (sym (list_all-append is_quiet (walk p) (walk (put_together ps))) ∙ ap (list_all is_quiet) (sym (walk-joined p (put_together ps))) ∙ h) in
      All-cons (IsBare layers depth) p ps
      (bare_by whole p (λ rust. parts.0)) (wordless_bare whole ps parts.1)

  wordless_pieces : layers.world.dialect.cfg ≡ None → (f : Forest) → HasNoWord f → All (IsBare layers depth) (cut f)
  wordless_pieces whole f h = wordless_bare whole (cut f) (ap (λ (g : Forest). list_all is_quiet (walk g)) (put_together-cut f) ∙ h)

  pub wordless_output : (f : Forest) → layers.world.dialect.cfg ≡ None → HasNoWord f → flat_map output_of (members_after layers depth [] (cut f)) ≡ placed None (walk f)
  wordless_output f whole h = quiet_steps (cut f) (quiet_cut f h) (wordless_pieces whole f h) ∙ ap (λ g. placed None (walk g)) (put_together-cut f)

  pub wordless_faults : (f : Forest) → layers.world.dialect.cfg ≡ None → HasNoWord f → flat_map (member_faults layers) (members_after layers depth [] (cut f)) ≡ []
  wordless_faults f whole h = quiet_faults (cut f) (quiet_cut f h) (wordless_pieces whole f h)
