-- The pieces of a text, evaluated one after another.
use Rattle.std.proofs.Common.{◌≡◌, ◌↔◌, ℕ, ◌+◌, ◌≤◌, ◌^◌, Bool, true, false, List, [], ◌∷◌, ◌++◌, append_assoc, append-nil, map, Option, Some, None, option_map, refl, ap, sym, subst, ◌∙◌}
use Rattle.std.specs.Prelude.{◌||◌, All}
use Rattle.std.specs.List.{list_any}
use Rattle.std.proofs.lemmas.List.{map-append}
use Rattle.std.proofs.lemmas.List.Elements.{All-head, All-nil, All-tail}
use Rattle.bridge.specs.RelativeSpans.{moved_to}
use Rattle.mbe.specs.Grammar.{Grammar}
use Rattle.tt_data.specs.Forest.{Forest, map_spans}
use Rattle.tt_data.specs.declared.edition.Edition.{Edition}
use Rattle.expander_scope.specs.Interning.{AllRead, numbers_in}
use Rattle.expander_model.specs.EqualTrees.{same_forest}
use Rattle.expander_model.specs.Definitions.{Definition, definition_of}
use Rattle.expander_model.specs.Expansion.{Outcome, World}
use Rattle.expander_model.specs.Held.{IsMet, Kept, Met, Numbered, StandFromFirst, Stands, Tells, first_place, kept_after, kept_of, met, mets_after, numbered_world, present, present_definition, resolve, unnumbered, with_met}
use Rattle.expander_model.specs.DefinitionTrees.{definition_trees}
use Rattle.expander_session.specs.Layered.{layers}
use Rattle.expander_model.specs.Meaning.{Layers, Member, definitions_after, member, members_after, plain, with_definition}
use Rattle.expander_session.specs.Caches.{IsCache, trees_of}
use Rattle.expander_scope.specs.ScopeTable.{AreRead, HasMet}
use Rattle.expander_scope.specs.DefinitionIds.{number_by, numbered_by}
use Rattle.expander_scope.specs.NewNumbers.{needed}
use Rattle.expander_model.specs.OtherPlaces.{LooksAtNoPlace, definition_with}
use Rattle.expander_model.specs.Pieces.{first_start, relative}
use Rattle.expander_model.specs.Scoping.{found_in}
use Rattle.expander_model.specs.Limits.{expanded}
use Rattle.expander_session.specs.Evaluating.{CanDefine, Evaluates, Grows, HasImported, HasTaken, IsEvaluated, MakesTooMany, NeedsMore}
use Rattle.expander_session.specs.EvaluatedTexts.{kept_in}
use Rattle.expander_session.specs.TooMany.{bursts}
use Rattle.expander_model.specs.World.{world}
use Rattle.expander_model.specs.declared.dialect.Dialect.{Dialect}
use Rattle.expander_session.specs.declared.cache.Cache.{Cache}
use Rattle.expander_session.specs.declared.evaluate.Evaluation.{Evaluation}
use Rattle.expander_scope.proofs.HeldLemmas.{definition_there, definitions_present, resolved_expansion}
use Rattle.expander_scope.proofs.DefinitionIdLemmas.{numbers_now}
use Rattle.expander_session.proofs.ImportLemmas.{mets_stay, same_number, trees_next}
use Rattle.expander_session.proofs.PassLemmas.{MoreNumbers}
use Rattle.expander_model.proofs.PlaceLemmas.{own_stands, resolved_piece}
use Rattle.expander_session.proofs.EvaluatedLemmas.{numbers_tell}

any_in : {X : Type 0} (p : X → Bool) (xs : List X) (y : X) (ys : List X) → p y ≡ true → list_any p (xs ++ y ∷ ys) ≡ true
any_in p [] y ys e = ap (λ (b : Bool). b || list_any p ys) e
any_in p (x ∷ xs) y ys e = ap (λ (b : Bool). p x || b) (any_in p xs y ys e) ∙ go (p x)
  where
    go : (b : Bool) → (b || true) ≡ true
    go true = refl
    go false = refl

module _ (grammar : Grammar) (edition : Edition) (dialect : Dialect) (depth : ℕ) (old : Cache) (prelude text : List Forest) where
  abbrev W : World Definition
  W = world grammar edition dialect

  abbrev L : Layers
  L = layers grammar edition dialect

  -- the pieces that are left are to be taken
  pub record Left (rest : List Forest) (now : Evaluation) : Type 0 where
    pub before : List Met
    pub trees : List Forest
    pub done : List Kept
    pub has : HasTaken W edition depth old L before trees done now
    pub stand : All StandFromFirst rest
    pub kept_are : (final : Forest → Option ℕ) → MoreNumbers (numbers_in now.taken.numbers.by_tree) final
        → kept_in grammar edition dialect depth final prelude text ≡ done ++ kept_after W depth (number_by final) before rest
    pub trees_are : definition_trees prelude ++ definition_trees text ≡ trees ++ definition_trees rest
    pub members_are : members_after L depth (definitions_after [] prelude) text
        ≡ map present done ++ members_after L depth (map present_definition before) rest

  -- nothing is in scope, and nothing is evaluated
  pub none_imported : (now : Evaluation) → HasMet dialect now.scope [] → AreRead now.scope → now.scope.edition ≡ edition
      → IsEvaluated W edition depth old L [] [] now.taken → HasImported grammar edition dialect depth old [] now
  none_imported now has_met read edition_is taken = record {
    met = has_met;
    known = All-nil (IsMet (numbered_by (numbers_in now.taken.numbers.by_tree)));
    read = read;
    edition_is = edition_is;
    taken = taken;
  }

  -- the prelude is in scope
  pub left_begins : All Stands prelude → All StandFromFirst text → (now : Evaluation) → HasImported grammar edition dialect depth old prelude now → Left text now
  left_begins stands stand now has =
      let N : Forest → Option ℕ = numbers_in now.taken.numbers.by_tree in record {
        before = mets_after W depth (number_by N) [] prelude;
        trees = definition_trees prelude;
        done = [];
        has = has;
        stand = stand;
        kept_are = λ final more. ap (λ (ms : List Met). kept_after W depth (number_by final) ms text) (mets_stay W depth N final more [] prelude has.known);
        trees_are = refl;
        members_are = ap (λ (ds : List Definition). members_after L depth ds text) (definitions_present W depth (number_by N) [] prelude stands);
      }

  pub left_done : (now : Evaluation) → Left [] now → IsEvaluated W edition depth old L (definition_trees prelude ++ definition_trees text)
      (kept_in grammar edition dialect depth (numbers_in now.taken.numbers.by_tree) prelude text) now.taken
  left_done now l =
      subst (λ ts. IsEvaluated W edition depth old L ts (kept_in grammar edition dialect depth (numbers_in now.taken.numbers.by_tree) prelude text) now.taken)
      (sym (append-nil l.trees) ∙ sym l.trees_are)
      (subst (λ ks. IsEvaluated W edition depth old L l.trees ks now.taken)
      (sym (append-nil l.done) ∙ sym (l.kept_are (numbers_in now.taken.numbers.by_tree) (λ t n e. e))) l.has.taken)

  pub can_define : (rest : List Forest) (now : Evaluation) → IsCache W depth edition old → Left rest now → CanDefine old now
  can_define rest now right l = record {
    old_table = right.table;
    old_read = subst (λ e. AllRead e old.by_tree) (sym l.has.edition_is) right.read;
    table = l.has.taken.numbers.table;
    table_read = subst (λ e. AllRead e now.taken.numbers.by_tree) (sym l.has.edition_is) l.has.taken.table_read;
    scope_read = l.has.read;
  }

  module _ (piece : Forest) (rest : List Forest) (now : Evaluation) (l : Left (piece ∷ rest) now) where
    abbrev r : Forest
    r = relative piece

    trees_left : definition_trees prelude ++ definition_trees text ≡ (l.trees ++ definition_trees (piece ∷ [])) ++ definition_trees rest
    trees_left = trees_next (definition_trees prelude ++ definition_trees text) l.trees piece rest l.trees_are

    -- too few numbers
    pub left_needs : 2 ^ 32 ≤ old.given + needed (trees_of old) (l.trees ++ definition_trees (piece ∷ []))
        → NeedsMore old (definition_trees prelude ++ definition_trees text)
    left_needs many = record { front = l.trees ++ definition_trees (piece ∷ []); more = definition_trees rest; are = trees_left; many = many }

    module _ (equal : (f g : Forest) → (same_forest f g ≡ true) ↔ (f ≡ g)) (law : LooksAtNoPlace W) where
      abbrev numbers : Forest → Option ℕ
      numbers = numbers_in now.taken.numbers.by_tree

      from : StandFromFirst piece
      from = All-head StandFromFirst piece rest l.stand

      tell : Tells (numbered_by numbers)
      tell = numbers_tell now.taken.numbers.given numbers (numbers_now equal old.given (numbers_in old.by_tree) (trees_of old) l.trees now.taken.numbers.given numbers l.has.taken.numbers.numbers)

      -- the first of the members that are left
      member_is : (number_of : Forest → ℕ) → members_after L depth (map present_definition l.before) (piece ∷ rest)
          ≡ present (kept_of W depth number_of l.before piece (definition_of r)) ∷ members_after L depth (map present_definition (with_met W depth number_of piece (definition_of r) l.before)) rest
      member_is number_of =
          ap (λ (o : Option Definition). member L depth (map present_definition l.before) piece o ∷ members_after L depth (with_definition o (map present_definition l.before)) rest)
          (definition_there piece (own_stands piece from))
          ∙ go (definition_of r)
        where
          go : (o : Option Definition)
              → member L depth (map present_definition l.before) piece (option_map (definition_with (moved_to (first_place piece))) o)
              ∷ members_after L depth (with_definition (option_map (definition_with (moved_to (first_place piece))) o) (map present_definition l.before)) rest
              ≡ present (kept_of W depth number_of l.before piece o) ∷ members_after L depth (map present_definition (with_met W depth number_of piece o l.before)) rest
          go (Some d) = refl
          go None =
              let there : map_spans (resolve (first_start piece) l.before) r ≡ piece = resolved_piece (first_start piece) l.before piece from in
              let scope : List ℕ → Option Definition = found_in W.dialect (map present_definition l.before) in
              let later : List Member = members_after L depth (map present_definition l.before) rest in
              ap (λ (q : Forest). plain q (expanded W (λ d. d) scope depth q) ∷ later) (sym there)
              ∙ ap (λ (o : Outcome Definition). plain (map_spans (resolve (first_start piece) l.before) r) o ∷ later)
              (resolved_expansion W law (numbered_by numbers) tell (first_start piece) l.before l.has.known depth r)

      -- too many tokens
      pub left_bursts : MakesTooMany grammar edition dialect depth piece now → list_any bursts (members_after L depth (definitions_after [] prelude) text) ≡ true
      left_bursts many =
          let number_of : Forest → ℕ = number_by numbers in
          let k : Kept = kept_of W depth number_of l.before piece (definition_of r) in
          let later : List Member = members_after L depth (map present_definition (with_met W depth number_of piece (definition_of r) l.before)) rest in
          let here : bursts (present k) ≡ true =
          ap (λ (o : Option Definition). bursts (present (kept_of W depth number_of l.before piece o))) many.0
          ∙ ap (λ (s : List ℕ → Option Numbered). (expanded (numbered_world W) unnumbered s depth r).bursts) (sym l.has.met.finds) ∙ many.1 in
          ap (list_any bursts) (l.members_are ∙ ap (λ ms. map present l.done ++ ms) (member_is number_of)) ∙ any_in bursts (map present l.done) (present k) later here

      module _ (next : Evaluation) (grows : Grows now.taken next.taken) (takes : Evaluates grammar edition dialect depth old piece now next) where
        abbrev N : Forest → Option ℕ
        N = numbers_in next.taken.numbers.by_tree

        abbrev k : Kept
        k = kept_of W depth (number_by N) l.before piece (definition_of r)

        has_next : HasTaken W edition depth old L (with_met W depth (number_by N) piece (definition_of r) l.before) (l.trees ++ definition_trees (piece ∷ [])) (l.done ++ k ∷ []) next
        has_next = takes l.before l.trees l.done l.has

        kept_next : (final : Forest → Option ℕ) → MoreNumbers N final
            → kept_after W depth (number_by final) l.before (piece ∷ rest) ≡ k ∷ kept_after W depth (number_by final) (with_met W depth (number_by N) piece (definition_of r) l.before) rest
        kept_next final more = go (definition_of r) refl has_next.known
          where
            go : (o : Option Definition) → definition_of r ≡ o → All (IsMet (numbered_by N)) (with_met W depth (number_by N) piece o l.before)
                → kept_of W depth (number_by final) l.before piece o ∷ kept_after W depth (number_by final) (with_met W depth (number_by final) piece o l.before) rest
                ≡ kept_of W depth (number_by N) l.before piece o ∷ kept_after W depth (number_by final) (with_met W depth (number_by N) piece o l.before) rest
            go None e h = refl
            go (Some d) e h =
                ap (λ (n : ℕ). met (record { place = first_place piece; numbered = record { number = n; definition = d } })
                ∷ kept_after W depth (number_by final) (record { place = first_place piece; numbered = record { number = n; definition = d } } ∷ l.before) rest)
                (same_number W depth N final more l.before piece d e h)

        pub left_more : Left rest next
        left_more = record {
          before = with_met W depth (number_by N) piece (definition_of r) l.before;
          trees = l.trees ++ definition_trees (piece ∷ []);
          done = l.done ++ k ∷ [];
          has = has_next;
          stand = All-tail StandFromFirst piece rest l.stand;
          kept_are = λ final more.
              l.kept_are final (λ t n e. more t n (grows t n e)) ∙ ap (λ ks. l.done ++ ks) (kept_next final more)
              ∙ sym (append_assoc l.done (k ∷ []) (kept_after W depth (number_by final) (with_met W depth (number_by N) piece (definition_of r) l.before) rest));
          trees_are = trees_left;
          members_are =
              let later : List Member = members_after L depth (map present_definition (with_met W depth (number_by N) piece (definition_of r) l.before)) rest in
              l.members_are ∙ ap (λ ms. map present l.done ++ ms) (member_is (number_by N))
              ∙ sym (append_assoc (map present l.done) (present k ∷ []) later) ∙ ap (λ ms. ms ++ later) (sym (map-append present l.done (k ∷ [])));
        }
