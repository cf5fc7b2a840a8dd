-- What a limit refuses depends on what was looked up until then alone.
use Rattle.std.proofs.Common.{◌≡◌, ℕ, zero, suc, ◌-◌, Bool, true, false, List, [], ◌∷◌, ◌++◌, Option, Some, None, refl, sym, ap, subst, ◌∙◌, unwrap_or, option_map, if◌then◌else◌}
use Rattle.std.specs.Prelude.{All, ◌&&◌, ◌||◌, not, nat_lt}
use Rattle.std.proofs.lemmas.List.Elements.{All-head, All-tail}
use Rattle.tt_data.specs.Forest.{Forest, size}
use Rattle.tt_data.specs.Walk.{Step, walk}
use Rattle.tt_data.specs.declared.span.Span.{Span}
use Rattle.expander_model.specs.declared.fault.FaultKind.TheVariants.{BrokenDefinition}
use Rattle.tt_data.specs.declared.delimiter.Delimiter.{Delimiter}
use Rattle.tt_data.specs.declared.leaf.Ident.{Ident}
use Rattle.expander_model.specs.Calls.{Path, bare, from_crate, other, Marked, none, token, inside, call, marked, unmarked, key_of}
use Rattle.expander_model.specs.Definitions.{Definition, nearest}
use Rattle.expander_model.specs.cfg_options.Conditions.{or_else}
use Rattle.expander_model.specs.Pieces.{cut}
use Rattle.expander_model.specs.Expansion.{World, CallSite, just, followed_by, grouped, faulted, found, bursting, before_group}
use Rattle.expander_model.specs.PieceStates.{after_call, after_group, after_leaf}
use Rattle.expander_model.specs.declared.begun.Begun.{Begun}
use Rattle.expander_model.specs.declared.begun.Begun.TheVariants.{Nothing}
use Rattle.expander_model.specs.declared.dialect.Dialect.{Dialect}
use Rattle.expander_model.specs.Limits.{Noted, definition, tried, burst, note_of, calls_of, sized, noted_world, noted_fit, noted_put_out, noted_bursts, noting, noted_list, plain_attempt, noted_attempt, noted, until_passed, too_large, Passed, passed_at_once, found_before, burst_before}
use Rattle.expander_model.specs.declared.limits.Limits.{Limits}
use Rattle.expander_model.specs.declared.scope_rules.Standing.TheVariants.{Argument}
use Rattle.expander_model.specs.Scoping.{call_site, Around, Scoped, Search, Expander, Attempt, PieceKind, out_piece, definition_piece, plain_piece, kind_in, in_group, behind, only, and_next, in_brackets, is_left_out, fitted, at_level, unbroken, looked_up, at_key, at_call, search_leaf, found_at, is_replaced, is_alone_in, takes_end, search_trees, search_piece, search_pieces}
use Rattle.textual_scope.proofs.ResultLemmas.{same_next}

-- ---- notes, as far as they agree

module _ {D : Type 0} (others : List ℕ → Option D) where
  abbrev Note : Type 0
  Note = List ℕ × Option (Noted D)

  -- a look-up of a note finds the same among others; a number agrees
  abbrev Agrees : Note → Type 0
  Agrees (key, Some (tried c n)) = Unit {0}
  Agrees (key, Some burst) = Unit {0}
  Agrees (key, Some (definition d)) = others key ≡ Some d
  Agrees (key, None) = others key ≡ None

  abbrev pub AllAgree : List Note → Type 0
  AllAgree [] = Unit {0}
  AllAgree (x ∷ xs) = Agrees x × AllAgree xs

  -- the second notes are the first up to the first look-up that does not agree
  abbrev Follow : List Note → List Note → Type 0
  Follow [] b = b ≡ []
  Follow (x ∷ a) b = Agrees x → (c : List Note) × ((b ≡ x ∷ c) × Follow a c)

  agree_front : (a b : List Note) → AllAgree (a ++ b) → AllAgree a
  agree_front [] b h = tt
  agree_front (x ∷ a) b h = (h.0, agree_front a b h.1)

  agree_back : (a b : List Note) → AllAgree (a ++ b) → AllAgree b
  agree_back [] b h = h
  agree_back (x ∷ a) b h = agree_back a b h.1

  follow_append : (a b c d : List Note) → Follow a b → (AllAgree a → Follow c d) → Follow (a ++ c) (b ++ d)
  follow_append [] b c d h more = subst (λ e. Follow c (e ++ d)) (sym h) (more tt)
  follow_append (x ∷ a) b c d h more = λ agrees.
      let found : (e : List Note) × ((b ≡ x ∷ e) × Follow a e) = h agrees in
      (found.0 ++ d, (ap (λ e. e ++ d) found.1.0, follow_append a found.0 c d found.1.1 (λ all. more (agrees, all))))

  -- the second result is the first, if all look-ups of the first agree; and they follow in any case
  pub record Both (a b : Scoped (Noted D)) : Type 0 where
    pub follow : Follow a.outcome.finds b.outcome.finds
    pub same : AllAgree a.outcome.finds → b ≡ a

  -- the same look-ups, whatever else
  both_with : (a b : Scoped (Noted D)) (of : Scoped (Noted D) → Scoped (Noted D)) → ((x : Scoped (Noted D)) → (of x).outcome.finds ≡ x.outcome.finds) → Both a b → Both (of a) (of b)
  both_with a b of finds h = record {
    follow = subst (λ xs. Follow xs (of b).outcome.finds) (sym (finds a)) (subst (λ xs. Follow a.outcome.finds xs) (sym (finds b)) h.follow);
    same = λ k. ap of (h.same (subst AllAgree (finds a) k));
  }

  both_next : (a b : Scoped (Noted D)) (f g : Around → Scoped (Noted D)) (around : Around) → Both a b → (AllAgree a.outcome.finds → (here : Around) → Both (f here) (g here))
      → Both (and_next a f around) (and_next b g around)
  both_next a b f g around h more =
      let after : Scoped (Noted D) = f (behind a.defines around) in
      record {
        follow = follow_append a.outcome.finds b.outcome.finds after.outcome.finds (g (behind b.defines around)).outcome.finds h.follow
            (λ all. subst (λ (x : Scoped (Noted D)). Follow after.outcome.finds (g (behind x.defines around)).outcome.finds) (sym (h.same all)) (more all (behind a.defines around)).follow);
        same = λ k.
            let all : AllAgree a.outcome.finds = agree_front a.outcome.finds after.outcome.finds k in
            same_next a b f g around (h.same all) ((more all (behind a.defines around)).same (agree_back a.outcome.finds after.outcome.finds k));
      }

  abbrev Finds : Type 0
  Finds = List (List ℕ × Option D)

  abbrev Same : (List ℕ × Option D) → Type 0
  Same find = others find.0 ≡ find.1

  -- a look-up before what follows it
  look : (x : List ℕ × Option D) (o u : Option (Passed D)) (p : Passed D) → (Same x → (q : Passed D) → o ≡ Some q → All Same q.finds → u ≡ Some (found_before x q))
      → option_map (found_before x) o ≡ Some p → All Same p.finds → u ≡ Some p
  look x None u p h e all = absurd (cc e)
  look x (Some q) u p h e all =
      let same : found_before x q ≡ p = cc in
      let agreed : All Same (x ∷ q.finds) = subst (λ (v : Passed D). All Same v.finds) (sym same) all in
      h (All-head Same x q.finds agreed) q refl (All-tail Same x q.finds agreed) ∙ e

  -- too many tokens before what follows
  burst_first : (o u : Option (Passed D)) (p : Passed D) → ((q : Passed D) → o ≡ Some q → All Same q.finds → u ≡ Some (burst_before q))
      → option_map burst_before o ≡ Some p → All Same p.finds → u ≡ Some p
  burst_first None u p h e all = absurd (cc e)
  burst_first (Some q) u p h e all =
      let same : burst_before q ≡ p = cc in
      h q refl (subst (λ (v : Passed D). All Same v.finds) (sym same) all) ∙ e

  -- notes before two results
  both_burst : (a b : Scoped (Noted D)) → Both a b → Both (noting (([], Some burst) ∷ []) a) (noting (([], Some burst) ∷ []) b)
  both_burst a b h = record {
    follow = λ agrees. (b.outcome.finds, (refl, h.follow));
    same = λ k. ap (noting (([], Some burst) ∷ [])) (h.same k.1);
  }

  both_sized : (c n : ℕ) (a b : Scoped (Noted D)) → Both a b → Both (noting (sized c n) a) (noting (sized c n) b)
  both_sized c n a b h = record {
    follow = λ agrees. (b.outcome.finds, (refl, h.follow));
    same = λ k. ap (noting (sized c n)) (h.same k.1);
  }

  both_noting : (c : Bool) (r : Option Forest) (n : ℕ) (a b : Scoped (Noted D)) → Both a b → Both (noting (note_of c r n) a) (noting (note_of c r n) b)
  both_noting true r n a b h = both_burst (noting (sized (calls_of r) n) a) (noting (sized (calls_of r) n) b) (both_sized (calls_of r) n a b h)
  both_noting false r n a b h = both_sized (calls_of r) n a b h

  pub passed_too : (a b : List Note) (calls tokens : ℕ) (p : Passed D) → Follow a b → until_passed calls tokens a ≡ Some p
      → All Same p.finds → until_passed calls tokens b ≡ Some p
  passed_too [] b calls tokens p h e all = absurd (cc e)
  passed_too ((key, Some burst) ∷ a) b calls tokens p h e all =
      let next : (c : List Note) × ((b ≡ (key, Some burst) ∷ c) × Follow a c) = h tt in
      burst_first (until_passed calls tokens a) (until_passed calls tokens b) p
      (λ q is rest. ap (until_passed calls tokens) next.1.0 ∙ ap (option_map burst_before) (passed_too a next.0 calls tokens q next.1.1 is rest)) e all
  passed_too ((key, Some (tried i n)) ∷ a) b calls tokens p h e all =
      let next : (c : List Note) × ((b ≡ (key, Some (tried i n)) ∷ c) × Follow a c) = h tt in
      ap (until_passed calls tokens) next.1.0
      ∙ go (nat_lt calls i || nat_lt tokens n) next.0 (λ k. passed_too a next.0 (calls - i) (tokens - n) p next.1.1 k all) e
    where
      go : (t : Bool) (c : List Note) → (until_passed (calls - i) (tokens - n) a ≡ Some p → until_passed (calls - i) (tokens - n) c ≡ Some p)
          → (if t then Some passed_at_once else until_passed (calls - i) (tokens - n) a) ≡ Some p
          → (if t then Some passed_at_once else until_passed (calls - i) (tokens - n) c) ≡ Some p
      go true c more k = k
      go false c more k = more k
  passed_too ((key, Some (definition d)) ∷ a) b calls tokens p h e all =
      look (key, Some d) (until_passed calls tokens a) (until_passed calls tokens b) p
      (λ agrees q is rest.
      let next : (c : List Note) × ((b ≡ (key, Some (definition d)) ∷ c) × Follow a c) = h agrees in
      ap (until_passed calls tokens) next.1.0 ∙ ap (option_map (found_before (key, Some d))) (passed_too a next.0 calls tokens q next.1.1 is rest)) e all
  passed_too ((key, None) ∷ a) b calls tokens p h e all =
      look (key, None) (until_passed calls tokens a) (until_passed calls tokens b) p
      (λ agrees q is rest.
      let next : (c : List Note) × ((b ≡ (key, None) ∷ c) × Follow a c) = h agrees in
      ap (until_passed calls tokens) next.1.0 ∙ ap (option_map (found_before (key, None))) (passed_too a next.0 calls tokens q next.1.1 is rest)) e all

-- ---- two scopes

module _ {D : Type 0} (dialect : Dialect) (world : World D) (local : Definition → D) (scope others : List ℕ → Option D) where
  abbrev local' : Definition → Noted D
  local' d = definition (local d)

  abbrev one_scope : List ℕ → Option (Noted D)
  one_scope key = option_map definition (scope key)

  abbrev two_scope : List ℕ → Option (Noted D)
  two_scope key = option_map definition (others key)

  abbrev BothIn : Search (Noted D) → Search (Noted D) → Type 0
  BothIn one two = (around : Around) (f : Forest) → Both others (one around f) (two around f)

  -- the same of attempts at calls: whether the call is replaced agrees too
  pub record BothTried (a b : Attempt (Noted D)) : Type 0 where
    pub replaces : AllAgree others a.given.outcome.finds → b.replaces ≡ a.replaces
    pub given : Both others a.given b.given

  abbrev BothFrom : Expander (Noted D) → Expander (Noted D) → Type 0
  BothFrom one two = (d : Noted D) (around : Around) (site : CallSite) → BothTried (one d around site) (two d around site)

  abbrev BothDeeper : Option (Expander (Noted D)) → Option (Expander (Noted D)) → Type 0
  BothDeeper None None = Unit {0}
  BothDeeper (Some one) (Some two) = BothFrom one two
  BothDeeper None (Some two) = ⊥
  BothDeeper (Some one) None = ⊥

  told : (b : Bool) (outer : Option Span) (place : Span) (steps : List Step) (ds : List Definition)
      → (let a : Scoped (Noted D) = record { outcome = if b then faulted BrokenDefinition place (just outer steps) else just outer steps; defines = ds } in Both others a a)
  told true outer place steps ds = record { follow = refl; same = λ k. refl }
  told false outer place steps ds = record { follow = refl; same = λ k. refl }

  both_fitted : (one two : Search (Noted D)) → BothIn one two → (around : Around) (site : CallSite) (r : Option Forest)
      → Both others (fitted dialect (noted_world world) local' one_scope one around site r) (fitted dialect (noted_world world) local' two_scope two around site r)
  both_fitted one two same around site None = record { follow = refl; same = λ k. refl }
  both_fitted one two same around site (Some g) = same (record around { outer = Some (unwrap_or around.outer site.at) }) g

  both_attempt : (one two : Search (Noted D)) → BothIn one two → BothFrom (plain_attempt dialect world local scope one) (plain_attempt dialect world local others two)
  both_attempt one two same d around site = record {
    replaces = λ k. refl;
    given = both_with others (fitted dialect (noted_world world) local' one_scope one around site (noted_fit world d site.argument))
        (fitted dialect (noted_world world) local' two_scope two around site (noted_fit world d site.argument))
        (λ a. record a { outcome = bursting (noted_bursts world d site.argument) a.outcome }) (λ x. refl) (both_fitted one two same around site (noted_fit world d site.argument));
  }

  pub both_tried : (one two : Search (Noted D)) → BothIn one two → BothFrom (noted_attempt dialect world local scope one) (noted_attempt dialect world local others two)
  both_tried one two same d around site =
      let tried : BothTried (plain_attempt dialect world local scope one d around site) (plain_attempt dialect world local others two d around site) = both_attempt one two same d around site in
      record {
        replaces = λ k. refl;
        given = both_noting others (noted_bursts world d site.argument) (noted_fit world d site.argument) (noted_put_out world d site.argument)
            (plain_attempt dialect world local scope one d around site).given (plain_attempt dialect world local others two d around site).given tried.given;
      }

  both_level : (d : Noted D) (one two : Option (Expander (Noted D))) → BothDeeper one two → (around : Around) (site : CallSite)
      → Both others (at_level dialect (noted_world world) local' one_scope d one around site) (at_level dialect (noted_world world) local' two_scope d two around site)
  both_level d None None same around site = record { follow = refl; same = λ k. refl }
  both_level d (Some one) (Some two) same around site = (same d around site).given
  both_level d None (Some two) same around site = absurd same
  both_level d (Some one) None same around site = absurd same

  both_unbroken : (d : Noted D) (b : Bool) (one two : Option (Expander (Noted D))) → BothDeeper one two → (around : Around) (site : CallSite)
      → Both others (unbroken dialect (noted_world world) local' one_scope d b one around site) (unbroken dialect (noted_world world) local' two_scope d b two around site)
  both_unbroken d true one two same around site = record { follow = refl; same = λ k. refl }
  both_unbroken d false one two same around site = both_level d one two same around site

  both_looked_up : (r : Option D) (one two : Option (Expander (Noted D))) → BothDeeper one two → (around : Around) (site : CallSite) (kept kept' : Scoped (Noted D)) → Both others kept kept'
      → Both others (looked_up dialect (noted_world world) local' one_scope (option_map definition r) one around site kept) (looked_up dialect (noted_world world) local' two_scope (option_map definition r) two around site kept')
  both_looked_up None one two same around site kept kept' h = h
  both_looked_up (Some d) one two same around site kept kept' h = both_unbroken (definition d) (world.broken d) one two same around site

  -- a look-up outside, and what comes of it
  both_found : (key : List ℕ) (r s : Option D) (one two : Option (Expander (Noted D))) → BothDeeper one two → (around : Around) (site : CallSite) (kept kept' : Scoped (Noted D)) → Both others kept kept'
      → others key ≡ s
      → Both others
      (let a : Scoped (Noted D) = looked_up dialect (noted_world world) local' one_scope (option_map definition r) one around site kept in record a { outcome = found key (option_map definition r) a.outcome })
      (let a : Scoped (Noted D) = looked_up dialect (noted_world world) local' two_scope (option_map definition s) two around site kept' in record a { outcome = found key (option_map definition s) a.outcome })
  both_found key r s one two same around site kept kept' h is = go r (both_looked_up r one two same around site kept kept' h)
    where
      go : (r : Option D)
          → Both others (looked_up dialect (noted_world world) local' one_scope (option_map definition r) one around site kept) (looked_up dialect (noted_world world) local' two_scope (option_map definition r) two around site kept')
          → Both others
          (let a : Scoped (Noted D) = looked_up dialect (noted_world world) local' one_scope (option_map definition r) one around site kept in record a { outcome = found key (option_map definition r) a.outcome })
          (let a : Scoped (Noted D) = looked_up dialect (noted_world world) local' two_scope (option_map definition s) two around site kept' in record a { outcome = found key (option_map definition s) a.outcome })
      go None both =
          let of : Option D → Scoped (Noted D) = λ t.
          let a : Scoped (Noted D) = looked_up dialect (noted_world world) local' two_scope (option_map definition t) two around site kept' in
          record a { outcome = found key (option_map definition t) a.outcome } in
          record {
            follow = λ agrees.
                let t : None ≡ s = sym agrees ∙ is in
                ((looked_up dialect (noted_world world) local' two_scope None two around site kept').outcome.finds, (ap (λ x. (of x).outcome.finds) (sym t), both.follow));
            same = λ k. ap of (sym (sym k.0 ∙ is)) ∙ ap (λ (a : Scoped (Noted D)). record a { outcome = found key None a.outcome }) (both.same k.1);
          }
      go (Some d) both =
          let of : Option D → Scoped (Noted D) = λ t.
          let a : Scoped (Noted D) = looked_up dialect (noted_world world) local' two_scope (option_map definition t) two around site kept' in
          record a { outcome = found key (option_map definition t) a.outcome } in
          record {
            follow = λ agrees.
                let t : Some d ≡ s = sym agrees ∙ is in
                ((looked_up dialect (noted_world world) local' two_scope (Some (definition d)) two around site kept').outcome.finds, (ap (λ x. (of x).outcome.finds) (sym t), both.follow));
            same = λ k. ap of (sym (sym k.0 ∙ is)) ∙ ap (λ (a : Scoped (Noted D)). record a { outcome = found key (Some (definition d)) a.outcome }) (both.same k.1);
          }

  both_key : (r : Option Definition) (key : List ℕ) (one two : Option (Expander (Noted D))) → BothDeeper one two → (around : Around) (site : CallSite) (kept kept' : Scoped (Noted D)) → Both others kept kept'
      → Both others (at_key dialect (noted_world world) local' one_scope r key one around site kept) (at_key dialect (noted_world world) local' two_scope r key two around site kept')
  both_key (Some d) key one two same around site kept kept' h = both_looked_up (Some (local d)) one two same around site kept kept' h
  both_key None key one two same around site kept kept' h = both_found key (scope key) (others key) one two same around site kept kept' h refl

  both_call : (path : Path) (name : Ident) (one two : Option (Expander (Noted D))) → BothDeeper one two → (around : Around) (site : CallSite) (kept kept' : Scoped (Noted D)) → Both others kept kept'
      → Both others (at_call dialect (noted_world world) local' one_scope one around path name site kept) (at_call dialect (noted_world world) local' two_scope two around path name site kept')
  both_call bare name one two same around site kept kept' h = both_key (nearest around.locals name.sym) name.sym one two same around site kept kept' h
  both_call (from_crate root p q) name one two same around site kept kept' h = both_key None (key_of (from_crate root p q) name) one two same around site kept kept' h
  both_call (other p q) name one two same around site kept kept' h = h

  agrees_same : (key : List ℕ) (r : Option D) → Agrees others (key, option_map definition r) → others key ≡ r
  agrees_same key None h = h
  agrees_same key (Some d) h = h

  -- what a call's name finds, where the look-up of the call agrees
  both_found_at : (path : Path) (name : Ident) (deeper : Option (Expander (Noted D))) (around : Around) (site : CallSite) (kept : Scoped (Noted D))
      → AllAgree others (at_call dialect (noted_world world) local' one_scope deeper around path name site kept).outcome.finds
      → found_at dialect (noted_world world) local' two_scope around path name ≡ found_at dialect (noted_world world) local' one_scope around path name
  both_found_at bare name deeper around site kept h = go (nearest around.locals name.sym) h
    where
      go : (r : Option Definition) → AllAgree others (at_key dialect (noted_world world) local' one_scope r name.sym deeper around site kept).outcome.finds
          → or_else (option_map local' r) (two_scope name.sym) ≡ or_else (option_map local' r) (one_scope name.sym)
      go (Some d) h = refl
      go None h = ap (option_map definition) (agrees_same name.sym (scope name.sym) h.0)
  both_found_at (from_crate root p q) name deeper around site kept h =
      let key : List ℕ = key_of (from_crate root p q) name in
      ap (option_map definition) (agrees_same key (scope key) h.0)
  both_found_at (other p q) name deeper around site kept h = refl

  -- whether a call is replaced, where all that it looks up agrees
  both_replaced : (one two : Option (Expander (Noted D))) → BothDeeper one two → (r : Option D) (around : Around) (site : CallSite) (kept : Scoped (Noted D))
      → AllAgree others (looked_up dialect (noted_world world) local' one_scope (option_map definition r) one around site kept).outcome.finds
      → is_replaced dialect (noted_world world) local' two_scope two (option_map definition r) around site ≡ is_replaced dialect (noted_world world) local' one_scope one (option_map definition r) around site
  both_replaced None None same r around site kept h = refl
  both_replaced (Some one) (Some two) same None around site kept h = refl
  both_replaced (Some one) (Some two) same (Some d) around site kept h = go (world.broken d) h
    where
      go : (b : Bool) → AllAgree others (unbroken dialect (noted_world world) local' one_scope (definition d) b (Some one) around site).outcome.finds
          → (not b && (two (definition d) around site).replaces) ≡ (not b && (one (definition d) around site).replaces)
      go true h = refl
      go false h = (same (definition d) around site).replaces h
  both_replaced None (Some two) same r around site kept h = absurd same
  both_replaced (Some one) None same r around site kept h = absurd same

  both_at : (path : Path) (name : Ident) (one two : Option (Expander (Noted D))) → BothDeeper one two → (around : Around) (site : CallSite) (kept : Scoped (Noted D))
      → AllAgree others (at_call dialect (noted_world world) local' one_scope one around path name site kept).outcome.finds
      → is_replaced dialect (noted_world world) local' two_scope two (found_at dialect (noted_world world) local' one_scope around path name) around site
      ≡ is_replaced dialect (noted_world world) local' one_scope one (found_at dialect (noted_world world) local' one_scope around path name) around site
  both_at bare name one two same around site kept h = go (nearest around.locals name.sym) h
    where
      go : (r : Option Definition) → AllAgree others (at_key dialect (noted_world world) local' one_scope r name.sym one around site kept).outcome.finds
          → is_replaced dialect (noted_world world) local' two_scope two (or_else (option_map local' r) (one_scope name.sym)) around site
          ≡ is_replaced dialect (noted_world world) local' one_scope one (or_else (option_map local' r) (one_scope name.sym)) around site
      go (Some d) h = both_replaced one two same (Some (local d)) around site kept h
      go None h = both_replaced one two same (scope name.sym) around site kept h.1
  both_at (from_crate root p q) name one two same around site kept h = both_replaced one two same (scope (key_of (from_crate root p q) name)) around site kept h.1
  both_at (other p q) name one two same around site kept h = none one two same
    where
      none : (one two : Option (Expander (Noted D))) → BothDeeper one two
          → is_replaced dialect (noted_world world) local' two_scope two None around site ≡ is_replaced dialect (noted_world world) local' one_scope one None around site
      none None None same = refl
      none (Some one) (Some two) same = refl
      none None (Some two) same = absurd same
      none (Some one) None same = absurd same

  -- whether a `;` goes with the call
  both_end : (s : Begun) (path : Path) (name : Ident) (d : Delimiter) (one two : Option (Expander (Noted D))) → BothDeeper one two → (around : Around) (site : CallSite) (kept : Scoped (Noted D))
      → AllAgree others (at_call dialect (noted_world world) local' one_scope one around path name site kept).outcome.finds
      → takes_end dialect (noted_world world) local' two_scope two s around path name d site ≡ takes_end dialect (noted_world world) local' one_scope one s around path name d site
  both_end s path name d one two same around site kept h =
      let alone : Bool = is_alone_in dialect s around.standing d in
      ap (λ (r : Option (Noted D)). alone && is_replaced dialect (noted_world world) local' two_scope two r around site) (both_found_at path name one around site kept h)
      ∙ ap (λ (b : Bool). alone && b) (both_at path name one two same around site kept h)

  module _ (one two : Search (Noted D)) (same : BothIn one two) (deep deep' : Option (Expander (Noted D))) (deeper : BothDeeper deep deep') where
    both_trees : (s : Begun) (around : Around) (m : Marked)
        → Both others (search_trees dialect (noted_world world) local' one_scope one deep s around m) (search_trees dialect (noted_world world) local' two_scope two deep' s around m)
    both_trees s around none = record { follow = refl; same = λ k. refl }
    both_trees s around (token l rest) =
        let a : Scoped (Noted D) = search_leaf dialect (noted_world world) local' one_scope s around l in
        both_next others a a (λ here. search_trees dialect (noted_world world) local' one_scope one deep (after_leaf s l) here rest) (λ here. search_trees dialect (noted_world world) local' two_scope two deep' (after_leaf s l) here rest)
        around (record { follow = refl; same = λ k. refl }) (λ all here. both_trees (after_leaf s l) here rest)
    both_trees s around (inside d a rest) =
        let inner : Around = record around { standing = in_group s d.kind around.standing } in
        both_next others (in_brackets around.outer d (one inner (unmarked a))) (in_brackets around.outer d (two inner (unmarked a)))
        (λ here. search_trees dialect (noted_world world) local' one_scope one deep (after_group s d.kind) here rest) (λ here. search_trees dialect (noted_world world) local' two_scope two deep' (after_group s d.kind) here rest)
        around (both_with others (one inner (unmarked a)) (two inner (unmarked a)) (in_brackets around.outer d) (λ x. refl) (same inner (unmarked a))) (λ all here. both_trees (after_group s d.kind) here rest)
    both_trees s around (call path name bang d a rest) =
        let site : CallSite = call_site path name bang d (unmarked a) in
        let inner : Around = record around { standing = Argument } in
        let of : Scoped (Noted D) → Scoped (Noted D) = λ x. only (followed_by (just around.outer (walk (before_group path name bang))) (grouped around.outer d x.outcome)) in
        let gone : Bool = takes_end dialect (noted_world world) local' one_scope deep s around path name d site in
        let gone' : Bool = takes_end dialect (noted_world world) local' two_scope deep' s around path name d site in
        let after : Bool → Around → Scoped (Noted D) = λ t here. search_trees dialect (noted_world world) local' two_scope two deep' (after_call t s d.kind) here rest in
        both_next others (at_call dialect (noted_world world) local' one_scope deep around path name site (of (one inner (unmarked a)))) (at_call dialect (noted_world world) local' two_scope deep' around path name site (of (two inner (unmarked a))))
        (λ here. search_trees dialect (noted_world world) local' one_scope one deep (after_call gone s d.kind) here rest) (after gone')
        around
        (both_call path name deep deep' deeper around site (of (one inner (unmarked a))) (of (two inner (unmarked a)))
        (both_with others (one inner (unmarked a)) (two inner (unmarked a)) of (λ x. refl) (same inner (unmarked a))))
        (λ all here. subst (λ (t : Bool). Both others (search_trees dialect (noted_world world) local' one_scope one deep (after_call gone s d.kind) here rest) (after t here))
        (sym (both_end s path name d deep deep' deeper around site (of (one inner (unmarked a))) all))
        (both_trees (after_call gone s d.kind) here rest))

    both_part : (around : Around) (p : Forest) (k : PieceKind)
        → Both others (search_piece dialect (noted_world world) local' one_scope one deep around p k) (search_piece dialect (noted_world world) local' two_scope two deep' around p k)
    both_part around p out_piece = record { follow = refl; same = λ k. refl }
    both_part around p (definition_piece d) = told (world.broken (local d)) around.outer (unwrap_or around.outer d.name.span) (if is_left_out around.standing then [] else walk d.piece) (d ∷ [])
    both_part around p plain_piece = both_trees Nothing around (marked p)

    both_parts : (around : Around) (ps : List Forest)
        → Both others (search_pieces dialect (noted_world world) local' one_scope one deep around ps) (search_pieces dialect (noted_world world) local' two_scope two deep' around ps)
    both_parts around [] = record { follow = refl; same = λ k. refl }
    both_parts around (p ∷ ps) =
        both_next others (search_piece dialect (noted_world world) local' one_scope one deep around p (kind_in dialect around.standing p)) (search_piece dialect (noted_world world) local' two_scope two deep' around p (kind_in dialect around.standing p))
        (λ here. search_pieces dialect (noted_world world) local' one_scope one deep here ps) (λ here. search_pieces dialect (noted_world world) local' two_scope two deep' here ps)
        around (both_part around p (kind_in dialect around.standing p)) (λ all here. both_parts here ps)

  both_list : (deep deep' : Option (Expander (Noted D))) → BothDeeper deep deep' → (n : ℕ)
      → BothIn (noted_list dialect world local scope deep n) (noted_list dialect world local others deep' n)
  both_list deep deep' deeper zero around f = record { follow = refl; same = λ k. refl }
  both_list deep deep' deeper (suc n) around f =
      both_parts (noted_list dialect world local scope deep n) (noted_list dialect world local others deep' n) (both_list deep deep' deeper n) deep deep' deeper around (cut f)

  pub both_noted : (n : ℕ) → BothIn (noted dialect world local scope n) (noted dialect world local others n)
  both_noted zero around f = both_list None None tt (suc (size f)) around f
  both_noted (suc n) around f =
      let one : Search (Noted D) = noted dialect world local scope n in
      let two : Search (Noted D) = noted dialect world local others n in
      both_list (Some (noted_attempt dialect world local scope one)) (Some (noted_attempt dialect world local others two))
      (both_tried one two (λ here g. both_noted n here g)) (suc (size f)) around f

  -- the law
  pub refused_too : (limits : Limits) (n : ℕ) (d : D) (around : Around) (site : CallSite) (p : Passed D)
      → too_large dialect world local scope limits n d around site ≡ Some p
      → All (λ find. others find.0 ≡ find.1) p.finds → too_large dialect world local others limits n d around site ≡ Some p
  refused_too limits n d around site p e all =
      let one : Search (Noted D) = noted dialect world local scope n in
      let two : Search (Noted D) = noted dialect world local others n in
      passed_too others (noted_attempt dialect world local scope one (definition d) around site).given.outcome.finds
      (noted_attempt dialect world local others two (definition d) around site).given.outcome.finds
      limits.calls limits.tokens p (both_tried one two (both_noted n) (definition d) around site).given.follow e all
