-- Worked rows: where calls stop that no rule fits, and what is wanted there.
use Rattle.std.proofs.Common.{◌≡◌, inl, refl, ap, subst, ℕ, List, [], ◌∷◌, codes, Some, None, arith}
use Rattle.tt_data.specs.Forest.{Forest, empty, leaf, group}
use Rattle.tt_data.specs.declared.delimiter.Delimiter.{Delimiter}
use Rattle.tt_data.specs.declared.delimiter.DelimiterKind.TheVariants.{Parenthesis}
use Rattle.tt_data.specs.declared.leaf.Ident.{Ident}
use Rattle.tt_data.specs.declared.leaf.IdentIsRaw.TheVariants as is_raw
use Rattle.tt_data.specs.declared.leaf.Leaf.TheVariants as as_leaf
use Rattle.tt_data.specs.declared.leaf.Literal.{Literal}
use Rattle.tt_data.specs.declared.leaf.Punct.{Punct}
use Rattle.tt_data.specs.declared.span.Span.{Span}
use Rattle.mbe_rules.specs.Items.{Item, Items, done, dollar, group_of, item, puncts_between, repetition, variable}
use Rattle.mbe_rules.specs.declared.parser.MetaVarKind.TheVariants as kind
use Rattle.mbe_rules.specs.declared.parser.RepeatKind.TheVariants.{ZeroOrMore}
use Rattle.mbe_matcher.specs.Grammar.{Grammar}
use Rattle.mbe_matcher.specs.Paths.{IsAmong, IsPath}
use Rattle.mbe_matcher.specs.Readings as r
use Rattle.mbe_matcher.specs.Units.{left, place}
use Rattle.mbe_explain.specs.Distances.{span_before_end}
use Rattle.mbe_explain.specs.Stops.{IsFurthest, IsWantedAt, wanted, wants_close, wants_end, wants_item, wants_separator}

-- where no move is valid at first, no state but the first is reached
alone : (gr : Grammar) (s : r.State) → r.next gr s ≡ [] → (ms : List r.Move) (t : r.State) → IsPath (r.next gr) s ms t → s ≡ t
alone gr s e [] t p = p
alone gr s e (m ∷ ms) t (u, a, p) = absurd (subst (λ cs. IsAmong (m, u) cs) e a)

module _ (gr : Grammar) (s t : Span) (one two : Literal) (comma : Punct) where
  abbrev round : Delimiter
  round = record { open_span = s; close_span = s; kind = Parenthesis }

  abbrev ident : List ℕ → Ident
  ident n = record { sym = n; span = s; is_raw = is_raw.No }

  abbrev name : List ℕ → Forest → Forest
  name n rest = leaf (as_leaf.Ident (ident n)) rest

  abbrev number : Literal → Forest → Forest
  number l rest = leaf (as_leaf.Literal l) rest

  abbrev an_ident : List ℕ → Item
  an_ident n = dollar (variable n (Some kind.Ident)) s

  -- `$a:ident $b:tt` on `1 2`: it stops at `1` and wants `$a:ident`
  abbrev swap : Items
  swap = item (an_ident (codes "a")) (item (dollar (variable (codes "b") (Some kind.Tt)) s) done)

  pub swap-wants : IsWantedAt gr swap (number one (number two empty)) (place (number one (number two empty)) []) (wants_item (an_ident (codes "a")))
  swap-wants = (r.start swap (number one (number two empty)), ([], refl), refl, refl)

  pub swap-stops : IsFurthest gr swap (number one (number two empty)) (place (number one (number two empty)) [])
  swap-stops = record {
    reached = (r.start swap (number one (number two empty)), ([], refl), refl);
    last = λ t h.
        let e = ap (λ x. left (r.place_of x)) (alone gr (r.start swap (number one (number two empty))) refl h.0 t h.1) in omega (arith, e);
  }

  -- and not the end
  pub swap-wants-no-end : IsWantedAt gr swap (number one (number two empty)) (place (number one (number two empty)) []) wants_end → ⊥
  swap-wants-no-end (t, h, e, w) =
      let i = ap wanted (alone gr (r.start swap (number one (number two empty))) refl h.0 t h.1) in cc

  -- `$a:ident` on nothing: it stops at the end and wants `$a:ident`
  pub none-wants : IsWantedAt gr (item (an_ident (codes "a")) done) empty (place empty []) (wants_item (an_ident (codes "a")))
  none-wants = (r.start (item (an_ident (codes "a")) done) empty, ([], refl), refl, refl)

  -- `$a:ident` on `a b`: it stops at `b` and wants the end
  pub more-wants : IsWantedAt gr (item (an_ident (codes "a")) done) (name (codes "a") (name (codes "b") empty)) (place (name (codes "b") empty) []) wants_end
  more-wants = (
    r.at done [] (place (name (codes "b") empty) []),
    (r.fragment_move (codes "a") kind.Ident (name (codes "a") empty) ∷ [], (r.at done [] (place (name (codes "b") empty) []), inl refl, refl)),
    refl,
    refl,
  )

  -- `( $x:ident )` on `(x y)`: it stops at `y` and wants the group's end
  pub group-wants : IsWantedAt gr (group_of round (item (an_ident (codes "x")) done) done) (group round (name (codes "x") (name (codes "y") empty)) empty)
      (place (name (codes "y") empty) (empty ∷ [])) wants_close
  group-wants = (
    r.at done (r.in_group done ∷ []) (place (name (codes "y") empty) (empty ∷ [])),
    (
      r.unit_move ∷ r.fragment_move (codes "x") kind.Ident (name (codes "x") empty) ∷ [],
      (
        r.at (item (an_ident (codes "x")) done) (r.in_group done ∷ []) (place (name (codes "x") (name (codes "y") empty)) (empty ∷ [])),
        inl refl,
        (r.at done (r.in_group done ∷ []) (place (name (codes "y") empty) (empty ∷ [])), inl refl, refl),
      ),
    ),
    refl,
    refl,
  )

  -- `$($k:ident),*` on `a b`: it stops at `b` and wants `,` or the end
  abbrev list : Items
  list = repetition (item (an_ident (codes "k")) done) (Some (puncts_between (comma ∷ []))) ZeroOrMore done

  abbrev first_of_list : List r.Move
  first_of_list = r.enter ∷ r.fragment_move (codes "k") kind.Ident (name (codes "a") empty) ∷ []

  abbrev rest_of_list : r.State
  rest_of_list = r.at done (r.in_round (item (an_ident (codes "k")) done) (Some (puncts_between (comma ∷ []))) ZeroOrMore done ∷ []) (place (name (codes "b") empty) [])

  abbrev in_list : r.State
  in_list =
      r.at (item (an_ident (codes "k")) done) (r.in_round (item (an_ident (codes "k")) done) (Some (puncts_between (comma ∷ []))) ZeroOrMore done ∷ [])
      (place (name (codes "a") (name (codes "b") empty)) [])

  pub list-wants-comma : IsWantedAt gr list (name (codes "a") (name (codes "b") empty)) (place (name (codes "b") empty) []) (wants_separator (puncts_between (comma ∷ [])))
  list-wants-comma = (rest_of_list, (first_of_list, (in_list, inl refl, (rest_of_list, inl refl, refl))), refl, refl)

  -- of `(x) y` with a closing at t: there is the opening, where two steps are left the closing, and
  -- at the end nothing
  abbrev bracketed : Forest
  bracketed = group (record { open_span = s; close_span = t; kind = Parenthesis }) (name (codes "x") empty) (name (codes "y") empty)

  first-at : span_before_end bracketed 4 ≡ Some s
  first-at = refl

  closing-at : span_before_end bracketed 2 ≡ Some t
  closing-at = refl

  end-at : span_before_end bracketed 0 ≡ None
  end-at = refl
