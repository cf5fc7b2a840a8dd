-- One event is added where no quote is pending.
use Rattle.std.proofs.Common.{◌≡◌, Bool, ℕ, ◌≤◌, ◌+◌, true, false, List, [], ◌∷◌, ◌++◌, length, refl, sym, ap, ◌∙◌, subst, arith, append_assoc, if◌then◌else◌}
use Rattle.std.specs.Prelude.{Some, None, Result, Ok, Err, OnErr, OnOk, codes}
use Rattle.std.specs.Char.{encode_utf8}
use Rattle.std.proofs.lemmas.Str.{encode_ascii, len_utf8_bounds, length-encode}
use Rattle.std.proofs.lemmas.List.{append-nil, length-append}
use Rattle.tt_data.specs.Walk.{Step, at_leaf, opens, closes}
use Rattle.tt_data.specs.declared.leaf.Leaf.TheVariants as as_leaf
use Rattle.tt_data.specs.declared.leaf.Punct.{Punct}
use Rattle.tt_data.specs.declared.span.Span.{Span}
use Rattle.tt.specs.Glued.{is_joint}
use Rattle.bridge.specs.Edges.{edge_of}
use Rattle.bridge.specs.declared.printing.spacing.Edge.TheVariants.{Mark}
use Rattle.bridge.specs.PrintStates.{Fits, Grows, IsReady, PutsAny, PutsNext, Settles, gap_behind, none_behind, token_behind}
use Rattle.bridge.specs.Printers.{Continues, PrinterState, Prints, pending, quote_at}
use Rattle.bridge.specs.Printing.{Print, depth_after, is_visible_step, step_span, visible}
use Rattle.bridge.specs.Spelling.{begins_with_name, spelling}
use Rattle.bridge.specs.Text.{is_char}
use Rattle.bridge.proofs.PrintStepLemmas.{as_visible, it_waits, left_more, none_waits, printed_more, quote_is, quote_left, quote_printed, whatever_waits}

-- the event is before those that follow, where no quote is pending
before_all : (s : PrinterState) (step : Step) (more : List Step) (all : Print) → s.waiting ≡ None → is_visible_step step ≡ true
    → Continues s (visible (step ∷ more)) all → Prints s (step ∷ visible more) all
before_all s step more all none sees p =
    subst (λ w. Prints s (pending w ++ (step ∷ visible more)) all) none (as_visible s step more all sees p)

deep_enough : (depth n : ℕ) (step : Step) → depth ≤ n → depth_after depth step ≤ n + 1
deep_enough depth n (at_leaf l) h = omega arith
deep_enough depth n (opens kind span) h = omega arith
deep_enough depth n (closes kind span) h = omega arith

-- the state after a printed token
abbrev pub behind : PrinterState → Step → List ℕ → PrinterState
behind s step text = record (token_behind s (edge_of step) (step_span step) text) { depth = depth_after s.depth step }

pub token_put : (s : PrinterState) (step : Step) (text : List ℕ) → IsReady s → is_visible_step step ≡ true
    → ((more : List Step) → spelling step more ≡ Some text) → PutsNext s (behind s step text) (step ∷ [])
token_put s step text ready sees has =
    let t = behind s step text in
    record {
      fits = (let long = length-append s.tokens (step_span step ∷ []) in
          let deep : depth_after s.depth step ≤ length s.tokens + 1 = deep_enough s.depth (length s.tokens) step ready.0 in omega (arith, long, deep));
      puts = λ more all p. none_waits t (visible more) all ready.1
          (printed_more s t step text (visible more) all (has (visible more)) (before_all s step more all ready.1 sees p) refl refl refl refl refl);
      grows = record {
        text = (gap_behind s.depth s.last (edge_of step) ++ text, append_assoc s.text (gap_behind s.depth s.last (edge_of step)) text);
        tokens = (step_span step ∷ [], refl);
        left_out = ([], sym (append-nil s.left_out));
      };
    }

pub none_put : (s : PrinterState) (step : Step) → IsReady s → is_visible_step step ≡ true
    → ((more : List Step) → spelling step more ≡ None) → PutsNext s (none_behind s) (step ∷ [])
none_put s step ready sees has =
    let t = none_behind s in
    record {
      fits = ready.0;
      puts = λ more all p. none_waits t (visible more) all ready.1
          (left_more s t step (visible more) all (has (visible more)) (before_all s step more all ready.1 sees p) refl refl refl refl refl);
      grows = record {
        text = ([], sym (append-nil s.text));
        tokens = ([], sym (append-nil s.tokens));
        left_out = ((length s.tokens + length s.left_out) ∷ [], refl);
      };
    }

grows_not : (s t : PrinterState) → t.text ≡ s.text → t.tokens ≡ s.tokens → t.left_out ≡ s.left_out → Grows s t
grows_not s t text tokens left = record {
  text = ([], text ∙ sym (append-nil s.text));
  tokens = ([], tokens ∙ sym (append-nil s.tokens));
  left_out = ([], left ∙ sym (append-nil s.left_out));
}

pub quote_put : (s : PrinterState) (p : Punct) → IsReady s → is_char "'" p ≡ true → is_joint p.spacing ≡ true
    → PutsNext s (record s { waiting = Some p.span }) (at_leaf (as_leaf.Punct p) ∷ [])
quote_put s p ready quote joint =
    let t = record s { waiting = Some p.span } in
    record {
      fits = ready.0;
      puts = λ more all q. subst (λ x. Prints t (x ∷ visible more) all) (quote_is p quote joint)
          (whatever_waits s (Some p.span) (at_leaf (as_leaf.Punct p) ∷ visible more) all (before_all s (at_leaf (as_leaf.Punct p)) more all ready.1 refl q));
      grows = grows_not s t refl refl refl;
    }

-- an invisible event changes nothing
pub invisible_put : (s : PrinterState) (step : Step) → Fits s → is_visible_step step ≡ false → PutsNext s s (step ∷ [])
invisible_put s step fits unseen = record {
  fits = fits;
  puts = λ more all p. subst (λ u. Continues s (if u then step ∷ visible more else visible more) all) unseen p;
  grows = grows_not s s refl refl refl;
}

-- ---- how long a character is

pub short_mark : (c : ℕ) → length (encode_utf8 c) ≤ 4
unfolding encode_utf8
short_mark c = (let long = length-encode c in let most = len_utf8_bounds c in omega (arith, most.1))

-- ---- the pending quote

encoded_quote : encode_utf8 39 ≡ codes "'"
encoded_quote = encode_ascii 39 (omega arith)

pub quote_stays : (s : PrinterState) (is_name : Bool) → Fits s → s.waiting ≡ None → Settles s s is_name
quote_stays s is_name fits none = record {
  ready = (fits, none);
  settled = λ more all named p. subst (λ w. Prints s (pending w ++ more) all) none p;
  grows = grows_not s s refl refl refl;
}

pub quote_printed_now : (s : PrinterState) (span : Span) → Fits s → s.waiting ≡ Some span
    → Settles s (record (token_behind s (Mark 39 true) span (encode_utf8 39)) { waiting = None }) true
quote_printed_now s span fits waits =
    let t = record (token_behind s (Mark 39 true) span (encode_utf8 39)) { waiting = None } in
    record {
      ready = (let long = length-append s.tokens (span ∷ []) in omega (arith, long), refl);
      settled = λ more all named p.
          printed_more s t (quote_at span) (encode_utf8 39) more all (quote_printed span more named ∙ ap Some (sym encoded_quote))
          (it_waits s span more all waits p) refl refl refl refl refl;
      grows = record {
        text = (gap_behind s.depth s.last (Mark 39 true) ++ encode_utf8 39, append_assoc s.text (gap_behind s.depth s.last (Mark 39 true)) (encode_utf8 39));
        tokens = (span ∷ [], refl);
        left_out = ([], sym (append-nil s.left_out));
      };
    }

pub quote_left_now : (s : PrinterState) (span : Span) → Fits s → s.waiting ≡ Some span
    → Settles s (record (none_behind s) { waiting = None }) false
quote_left_now s span fits waits =
    let t = record (none_behind s) { waiting = None } in
    record {
      ready = (fits, refl);
      settled = λ more all unnamed p.
          left_more s t (quote_at span) more all (quote_left span more unnamed) (it_waits s span more all waits p) refl refl refl refl refl;
      grows = record {
        text = ([], sym (append-nil s.text));
        tokens = ([], sym (append-nil s.tokens));
        left_out = ((length s.tokens + length s.left_out) ∷ [], refl);
      };
    }

-- ---- an event after a quote is settled

pub settled_put : (s t u : PrinterState) (step : Step) (is_name : Bool) → is_visible_step step ≡ true
    → ((more : List Step) → begins_with_name (step ∷ more) ≡ is_name) → Settles s t is_name → PutsNext t u (step ∷ [])
    → PutsAny s u (step ∷ [])
settled_put s t u step is_name sees named settles next = λ more all p.
    next.puts more all
    (subst (λ v. Continues t (if v then step ∷ visible more else visible more) all) (sym sees)
    (none_waits t (step ∷ visible more) all settles.ready.1
    (settles.settled (step ∷ visible more) all (named (visible more)) (as_visible s step more all sees p))))

pub grows_next : {A E : Type 0} (r : Result A E) (s t : PrinterState) (steps : List Step) → OnOk r (PutsNext s t steps) → OnErr r (t ≡ s) → Grows s t
grows_next (Ok a) s t steps next same = next.grows
grows_next (Err e) s t steps next same = subst (λ u. Grows s u) (sym same) (grows_not s s refl refl refl)
