-- One more event is displayed: its text, and what comes before the next token.
use Rattle.std.proofs.Common.{◌≡◌, ℕ, List, [], ◌∷◌, ◌++◌, Bool, codes, ap, refl, sym, ◌∙◌, append_assoc, append-nil}
use Rattle.tt_data.specs.declared.delimiter.DelimiterKind.{DelimiterKind}
use Rattle.tt_data.specs.declared.delimiter.DelimiterKind.TheVariants.{Parenthesis, Brace, Bracket, Invisible}
use Rattle.tt_data.specs.declared.leaf.Leaf.{Leaf}
use Rattle.tt_data.specs.declared.leaf.Spacing.{Spacing}
use Rattle.tt_data.specs.declared.span.Span.{Span}
use Rattle.tt_data.specs.Displayed.{displayed_leaf}
use Rattle.tt_data.specs.Walk.{Step, at_leaf, opens, closes}
use Rattle.tt.specs.Styles.{opening_after, space_behind_opening, space_behind_closing}
use Rattle.tt.specs.Texts.{closing_text, space_after, text_after}

module _ (touches : Spacing → Bool) where
  opens_text : (space : List ℕ) (kind : DelimiterKind) (at : Span) (more : List Step)
      → text_after touches space (opens kind at ∷ more) ≡ opening_after space kind ++ text_after touches (space_behind_opening space kind) more
  opens_text space Parenthesis at more = sym (append_assoc space (codes "(") (text_after touches [] more))
  opens_text space Brace at more = sym (append_assoc space (codes "{") (text_after touches [] more))
  opens_text space Bracket at more = sym (append_assoc space (codes "[") (text_after touches [] more))
  opens_text space Invisible at more = refl

  closes_text : (space : List ℕ) (kind : DelimiterKind) (at : Span) (more : List Step)
      → text_after touches space (closes kind at ∷ more) ≡ closing_text kind ++ text_after touches (space_behind_closing space kind) more
  closes_text space Parenthesis at more = refl
  closes_text space Brace at more = refl
  closes_text space Bracket at more = refl
  closes_text space Invisible at more = refl

  -- what is written, and the text of the events left, are all the text
  module _ (done space : List ℕ) (left more : List Step) (text : List ℕ) (so_far : done ++ text_after touches space left ≡ text) where
    pub leaf_printed : (l : Leaf) (next : List ℕ) → left ≡ at_leaf l ∷ more → next ≡ space_after touches l
        → (done ++ (space ++ displayed_leaf l)) ++ text_after touches next more ≡ text
    leaf_printed l next first next_is =
        rw (next_is, append_assoc done (space ++ displayed_leaf l) (text_after touches (space_after touches l) more), append_assoc space (displayed_leaf l) (text_after touches (space_after touches l) more))
        (rw first at so_far)

    pub opening_printed : (kind : DelimiterKind) (at : Span) (next : List ℕ) → left ≡ opens kind at ∷ more → next ≡ space_behind_opening space kind
        → (done ++ opening_after space kind) ++ text_after touches next more ≡ text
    opening_printed kind at next first next_is =
        rw (next_is, append_assoc done (opening_after space kind) (text_after touches (space_behind_opening space kind) more))
        (ap (λ t. done ++ t) (sym (opens_text space kind at more)) ∙ (rw first at so_far))

    pub closing_printed : (kind : DelimiterKind) (at : Span) (next : List ℕ) → left ≡ closes kind at ∷ more → next ≡ space_behind_closing space kind
        → (done ++ closing_text kind) ++ text_after touches next more ≡ text
    closing_printed kind at next first next_is =
        rw (next_is, append_assoc done (closing_text kind) (text_after touches (space_behind_closing space kind) more))
        (ap (λ t. done ++ t) (sym (closes_text space kind at more)) ∙ (rw first at so_far))

  -- with no event left, that is written
  pub all_printed : (done space : List ℕ) (left : List Step) (text : List ℕ) → done ++ text_after touches space left ≡ text → left ≡ [] → done ≡ text
  all_printed done space left text so_far none = sym (append-nil done) ∙ (rw none at so_far)
