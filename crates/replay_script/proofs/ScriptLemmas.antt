-- Lines that are read and answered one after another.
use Rattle.std.proofs.Common.{◌≡◌, ◌≢◌, ℕ, ◌+◌, ◌<◌, ◌^◌, Bool, true, false, List, [], ◌∷◌, ◌++◌, refl, sym, ap, ◌∙◌, subst, arith, length, length-append, append_assoc, append-nil, take, Option, Some, None}
use Rattle.std.proofs.Math.Seq.{take-append-add}
use Rattle.std.specs.Io.KnownBytes.{Appends, Consumes, IsAtEnd}
use Rattle.std.specs.Prelude.{Err, IfSome, codes, if◌then◌else◌, zero, suc}
use Rattle.tt_data.specs.Forest.{Forest}
use Rattle.tt_data.specs.declared.edition.Edition.{Edition}
use Rattle.mbe.specs.Grammar.{Grammar}
use Rattle.expander_model.specs.Meaning.{Layers}
use Rattle.expander_model.specs.declared.dialect.Dialect.{Dialect}
use Rattle.expander_session.specs.Layered.{layers}
use Rattle.expander_session.specs.State.{State, layers_of}
use Rattle.replay_script.specs.LineTurns.{Answering, AnswersLine, IsNew, LineTurn, ReadsLine}
use Rattle.replay_script.specs.Progress.{AreLineAnswers, Progress, after, begun_with}
use Rattle.replay_script.specs.Replays.{Answers, HasCount, HasEnd, HasHead, IsReplayed, IsWritten, asking}
use Rattle.replay_script.specs.Scripts.{AreSaid, HasLine, Says}
use Rattle.replay_script.specs.SourceTables.{source_in}
use Rattle.replay_script.specs.Written.{all_written, written}
use Rattle.replay_script.specs.declared.form.Form.{Form}
use Rattle.replay_script.specs.Words.{Lacks}
use Rattle.replay_script.specs.declared.answer.LineAnswer.{LineAnswer}
use Rattle.replay_script.specs.declared.line.Line.{Line}
use Rattle.replay_script.specs.declared.script.Answered.{Answered}
use Rattle.replay_script.specs.declared.script.End.{End}
use Rattle.replay_script.specs.declared.script.End.TheVariants.{Whole, Wrong, ReadFailed, WriteFailed, Memory, TooLong}
use Rattle.replay_script.specs.declared.sources.Sources.{Sources}
use Rattle.replay_script.proofs.ProgressLemmas.{Agree, GoesOn, IsSet, Remembers, goes_line, short_text}
use Rattle.replay_script.proofs.WordLemmas.{cut_same}

-- ---- bytes that are known

pub consumes_none : (a : Option (List ℕ)) → Consumes a a []
consumes_none None = tt
consumes_none (Some xs) = refl

pub consumes_more : (a b c : Option (List ℕ)) (xs ys : List ℕ) → Consumes a b xs → Consumes b c ys → Consumes a c (xs ++ ys)
consumes_more None b c xs ys p q = tt
consumes_more (Some ds) None c xs ys p q = absurd p
consumes_more (Some ds) (Some bs) None xs ys p q = absurd q
consumes_more (Some ds) (Some bs) (Some cs) xs ys p q = p ∙ ap (λ (zs : List ℕ). xs ++ zs) q ∙ sym (append_assoc xs ys cs)

pub appends_none : (a : Option (List ℕ)) → Appends a a []
appends_none None = tt
appends_none (Some xs) = sym (append-nil xs)

pub appends_more : (a b c : Option (List ℕ)) (xs ys : List ℕ) → Appends a b xs → Appends b c ys → Appends a c (xs ++ ys)
appends_more None b c xs ys p q = tt
appends_more (Some ds) None c xs ys p q = absurd p
appends_more (Some ds) (Some bs) None xs ys p q = absurd q
appends_more (Some ds) (Some bs) (Some cs) xs ys p q = q ∙ ap (λ (zs : List ℕ). zs ++ ys) p ∙ append_assoc ds xs ys

-- at the end all was read
all_read : (had mid : Option (List ℕ)) (bytes : List ℕ) → Consumes had mid bytes → IsAtEnd mid → IfSome had (λ all. all ≡ bytes)
all_read None mid bytes read e = tt
all_read (Some xs) None bytes read e = absurd read
all_read (Some xs) (Some ys) bytes read e = read ∙ ap (λ (t : List ℕ). bytes ++ t) e ∙ append-nil bytes

-- ---- lines

-- a line behind others says one command more
pub said_more : (text : List ℕ) (commands : List Line) (bytes line : List ℕ) (command : Line) → AreSaid text commands []
    → HasLine bytes line [] → Says line command → AreSaid (text ++ bytes) (commands ++ command ∷ []) []
said_more text [] bytes line command said is says =
    (line, [], record { is = ap (λ (t : List ℕ). t ++ bytes) said ∙ is.is; one = is.one; utf8 = is.utf8; plain = is.plain }, says, refl)
said_more text (first ∷ commands) bytes line command (l, m, e, s, said) is says = (
  l,
  m ++ bytes,
  record { is = ap (λ (t : List ℕ). t ++ bytes) e.is ∙ append_assoc l (10 ∷ m) bytes; one = e.one; utf8 = e.utf8; plain = e.plain },
  s,
  said_more m commands bytes line command said is says,
)

-- what lines say of origins: nothing is read yet, or they begin with the line that asks for them, or with another
abbrev pub Begun : ℕ → Bool → List ℕ → List ℕ → List Line → List LineAnswer → Type 0
Begun zero origins script lines commands answers = (origins ≡ false) × (script ≡ []) × (lines ≡ []) × (commands ≡ []) × (answers ≡ [])
Begun (suc n) true script lines commands answers = script ≡ asking ++ lines
Begun (suc n) false script lines commands answers =
    (script ≡ lines) × ((first : List ℕ) × (more : List ℕ) × (script ≡ first ++ 10 ∷ more) × Lacks 10 first × (first ≢ codes "origins"))

word_lacks : Lacks 10 (codes "origins")
word_lacks zero inside e = omega (arith, e)
word_lacks (suc zero) inside e = omega (arith, e)
word_lacks (suc (suc zero)) inside e = omega (arith, e)
word_lacks (suc (suc (suc zero))) inside e = omega (arith, e)
word_lacks (suc (suc (suc (suc zero)))) inside e = omega (arith, e)
word_lacks (suc (suc (suc (suc (suc zero))))) inside e = omega (arith, e)
word_lacks (suc (suc (suc (suc (suc (suc zero)))))) inside e = omega (arith, e)
word_lacks (suc (suc (suc (suc (suc (suc (suc i))))))) inside e = omega (arith, inside)

-- lines that begin with another do not begin with that one
other_head : (script first more : List ℕ) → script ≡ first ++ 10 ∷ more → Lacks 10 first → first ≢ codes "origins"
    → (rest : List ℕ) → script ≢ asking ++ rest
other_head script first more is one other rest same =
    other (cut_same 10 first more (codes "origins") rest (sym is ∙ same) one word_lacks).0

no_head : (rest : List ℕ) → [] ≡ asking ++ rest → ⊥
no_head rest e = cc

pub head_of : (n : ℕ) (origins : Bool) (script lines : List ℕ) (commands : List Line) (answers : List LineAnswer)
    → Begun n origins script lines commands answers → HasHead script origins lines
head_of zero true script lines commands answers b = absurd (cc b.0)
head_of zero false script lines commands answers b = (b.1 ∙ sym b.2, λ rest same. no_head rest (sym b.1 ∙ same))
head_of (suc n) true script lines commands answers b = b
head_of (suc n) false script lines commands answers b = (b.0, other_head script b.1.0 b.1.1 b.1.2 b.1.3 b.1.4)

begun_more : (n : ℕ) (origins : Bool) (script lines bytes line : List ℕ) (commands : List Line) (answers : List LineAnswer) (c : Line) (a : LineAnswer)
    → Begun n origins script lines commands answers → HasLine bytes line [] → (n ≡ 0 → bytes ≢ asking)
    → Begun (suc n) origins (script ++ bytes) (lines ++ bytes) (commands ++ c ∷ []) (answers ++ a ∷ [])
begun_more zero true script lines bytes line commands answers c a b is other = absurd (cc b.0)
begun_more zero false script lines bytes line commands answers c a b is other = (
  ap (λ (t : List ℕ). t ++ bytes) (b.1 ∙ sym b.2),
  (
    line,
    [],
    ap (λ (t : List ℕ). t ++ bytes) b.1 ∙ is.is,
    is.one,
    λ same. other refl (is.is ∙ ap (λ (t : List ℕ). t ++ 10 ∷ []) same),
  ),
)
begun_more (suc n) true script lines bytes line commands answers c a b is other = ap (λ (t : List ℕ). t ++ bytes) b ∙ append_assoc asking lines bytes
begun_more (suc n) false script lines bytes line commands answers c a b is other = (
  ap (λ (t : List ℕ). t ++ bytes) b.0,
  (b.1.0, b.1.1 ++ bytes, ap (λ (t : List ℕ). t ++ bytes) b.1.2 ∙ append_assoc b.1.0 (10 ∷ b.1.1) bytes, b.1.3, b.1.4),
)

add_one : (n : ℕ) → suc n ≡ n + 1
add_one n = omega arith

-- the layers of a session are those of its grammar, edition and dialect
layers_are : {G : Type 0} → (answer : G → Grammar) (s : State G) (grammar : G) (edition : Edition) (dialect : Dialect) (depth : ℕ) → IsSet s grammar edition dialect depth
    → layers_of answer s ≡ layers (answer grammar) edition dialect
layers_are answer s grammar edition dialect depth is =
    ap (λ (g : _). layers (answer g) s.edition s.dialect) is.grammar_is ∙ ap (λ (e : Edition). layers (answer grammar) e s.dialect) is.edition_is
    ∙ ap (layers (answer grammar) edition) is.dialect_is

-- a turn, for the layers and the depth that a session was made with
goes_set : {G : Type 0} → (answer_of : G → Grammar) (old new : State G) (had have : Sources) (grammar : G) (edition : Edition) (dialect : Dialect) (depth : ℕ) (at : Progress) (line : Line)
    (answer : LineAnswer) → IsSet old grammar edition dialect depth → Remembers (layers (answer_of grammar) edition dialect) depth old at → Agree had at.sources
    → LineTurn (layers_of answer_of old) old new had have line answer → GoesOn (layers (answer_of grammar) edition dialect) depth old new have at line answer
goes_set answer_of old new had have grammar edition dialect depth at line answer is r agree turn =
    let L : Layers = layers (answer_of grammar) edition dialect in
    subst (λ (n : ℕ). GoesOn L n old new have at line answer) is.depth_is
    (goes_line L old new had have at line answer (subst (λ (n : ℕ). Remembers L n old at) (sym is.depth_is) r) agree
    (subst (λ (l : Layers). LineTurn l old new had have line answer) (layers_are answer_of old grammar edition dialect depth is) turn))

-- ---- where a script stands

no_text : (text : List ℕ) → text ≡ [] → length text < 2 ^ 32
no_text text is = subst (λ (t : List ℕ). length t < 2 ^ 32) (sym is) (omega arith)

module _ {G : Type 0} (answer_of : G → Grammar) (grammar : G) (edition : Edition) (dialect : Dialect) (depth : ℕ) (prelude : List Forest) (form : Form) where
  abbrev its_layers : Layers
  its_layers = layers (answer_of grammar) edition dialect

  -- after these many lines: what was read, the answers, and the session and the sources that go on
  pub record Far (s : State G) (kept : Sources) (had now : Option (List ℕ)) (count : ℕ) (origins : Bool) (told : List ℕ) : Type 0 where
    pub script : List ℕ
    pub rest : List ℕ
    pub lines : List Line
    pub answers : List LineAnswer
    pub at : Progress
    pub read : Consumes had now script
    pub begun : Begun count origins script rest lines answers
    pub said : AreSaid rest lines []
    pub is_set : IsSet s grammar edition dialect depth
    pub remembers : Remembers its_layers depth s at
    pub agree : Agree kept at.sources
    -- the text is short enough for places
    pub short : length s.text < 2 ^ 32
    -- whatever answers the lines that are left makes the answers so far those of all
    pub more : (left : List Line) (later : List LineAnswer) → AreLineAnswers its_layers depth at left later
        → AreLineAnswers its_layers depth (begun_with prelude) (lines ++ left) (answers ++ later)
    -- before the first line nothing is written
    pub first : count ≡ 0 → (at ≡ begun_with prelude) × (told ≡ [])
    -- and what is written of the lines that are left comes behind what is written so far
    pub writes : (left : List Line) (later : List LineAnswer)
        → all_written form origins (begun_with prelude) (lines ++ left) (answers ++ later)
        ≡ told ++ all_written form origins at left later
    pub counted : count ≡ length lines + (if origins then 1 else 0)

  pub far_first : (s : State G) (kept : Sources) (had : Option (List ℕ)) → IsNew s → s.prelude ≡ prelude → IsSet s grammar edition dialect depth
      → ((n : ℕ) → source_in kept n ≡ None) → Far s kept had had 0 false []
  far_first s kept had new is set none = record {
    script = [];
    rest = [];
    lines = [];
    answers = [];
    at = begun_with prelude;
    read = consumes_none had;
    begun = (refl, refl, refl, refl, refl);
    said = refl;
    is_set = set;
    remembers = record { text = new.text; prelude = is; held = new.held; trees = new.trees; given_is = new.given_is };
    agree = none;
    short = no_text s.text new.text;
    more = λ left later h. h;
    first = λ none. (refl, refl);
    writes = λ left later. refl;
    counted = refl;
  }

  -- the first line asks for origins
  pub far_origins : (s : State G) (kept : Sources) (had mid now : Option (List ℕ)) (n : ℕ) (origins : Bool) (told bytes : List ℕ) → Far s kept had mid n origins told → n ≡ 0
      → Consumes mid now bytes → bytes ≡ asking → Far s kept had now (n + 1) true told
  far_origins s kept had mid now zero origins told bytes far first read is = record {
    script = asking;
    rest = [];
    lines = [];
    answers = [];
    at = far.at;
    read = subst (Consumes had now) (ap (λ (t : List ℕ). t ++ bytes) far.begun.1 ∙ is) (consumes_more had mid now far.script bytes far.read read);
    begun = sym (append-nil asking);
    said = refl;
    is_set = far.is_set;
    remembers = far.remembers;
    agree = far.agree;
    short = far.short;
    more = λ left later h. subst (λ (ls : List Line). AreLineAnswers its_layers depth (begun_with prelude) (ls ++ left) later) far.begun.3
        (subst (λ (xs : List LineAnswer). AreLineAnswers its_layers depth (begun_with prelude) (far.lines ++ left) (xs ++ later)) far.begun.4 (far.more left later h));
    first = λ none. absurd (omega (arith, none));
    writes = λ left later.
        ap (λ (p : Progress). all_written form true p left later) (sym (far.first refl).0)
        ∙ ap (λ (t : List ℕ). t ++ all_written form true far.at left later) (sym (far.first refl).1);
    counted = refl;
  }
  far_origins s kept had mid now (suc n) origins told bytes far first read is = absurd (omega (arith, first))

  -- a line is answered
  pub far_line : (old new : State G) (kept have : Sources) (had mid now : Option (List ℕ)) (n : ℕ) (origins : Bool) (told more bytes : List ℕ) → Far old kept had mid n origins told
      → Consumes mid now bytes → Answering (layers_of answer_of old) old new kept have bytes form origins more → (n ≡ 0 → bytes ≢ asking)
      → Far new have had now (n + 1) origins (told ++ more)
  far_line old new kept have had mid now n origins told more bytes far read line other =
      let g = goes_set answer_of old new kept have grammar edition dialect depth far.at line.asked line.answer far.is_set far.remembers far.agree line.turn in
      record {
        script = far.script ++ bytes;
        rest = far.rest ++ bytes;
        lines = far.lines ++ line.asked ∷ [];
        answers = far.answers ++ line.answer ∷ [];
        at = after far.at line.asked line.answer;
        read = consumes_more had mid now far.script bytes far.read read;
        begun = subst (λ (k : ℕ). Begun k origins (far.script ++ bytes) (far.rest ++ bytes) (far.lines ++ line.asked ∷ []) (far.answers ++ line.answer ∷ []))
            (add_one n)
            (begun_more n origins far.script far.rest bytes line.line far.lines far.answers line.asked line.answer far.begun line.is_line other);
        said = said_more far.rest far.lines bytes line.line line.asked far.said line.is_line line.says;
        is_set = record {
          grammar_is = g.is_set.grammar_is ∙ far.is_set.grammar_is;
          edition_is = g.is_set.edition_is ∙ far.is_set.edition_is;
          dialect_is = g.is_set.dialect_is ∙ far.is_set.dialect_is;
          depth_is = g.is_set.depth_is ∙ far.is_set.depth_is;
        };
        remembers = g.remembers;
        agree = g.agree;
        short = short_text (layers_of answer_of old) old new kept have line.asked line.answer far.short line.turn;
        more = λ left later h.
            subst (λ (ls : List Line). AreLineAnswers its_layers depth (begun_with prelude) ls ((far.answers ++ line.answer ∷ []) ++ later))
            (sym (append_assoc far.lines (line.asked ∷ []) left))
            (subst (λ (xs : List LineAnswer). AreLineAnswers its_layers depth (begun_with prelude) (far.lines ++ line.asked ∷ left) xs)
            (sym (append_assoc far.answers (line.answer ∷ []) later)) (far.more (line.asked ∷ left) (line.answer ∷ later) (g.answers, h)));
        first = λ none. absurd (omega (arith, none));
        writes = λ left later.
            let next = after far.at line.asked line.answer in
            let rest = all_written form origins next left later in
            ap (λ (ls : List Line). all_written form origins (begun_with prelude) ls ((far.answers ++ line.answer ∷ []) ++ later))
            (append_assoc far.lines (line.asked ∷ []) left)
            ∙ ap (λ (xs : List LineAnswer). all_written form origins (begun_with prelude) (far.lines ++ line.asked ∷ left) xs)
            (append_assoc far.answers (line.answer ∷ []) later)
            ∙ far.writes (line.asked ∷ left) (line.answer ∷ later)
            ∙ ap (λ (t : List ℕ). told ++ (t ++ rest)) (sym (line.is_told ∙ ap (λ (t : List ℕ). written form origins t line.answer) g.remembers.text))
            ∙ sym (append_assoc told more rest);
        counted = omega (arith, far.counted, length-append far.lines (line.asked ∷ []));
      }

  -- the lines so far are a script by themselves
  far_replayed : (s : State G) (kept : Sources) (had now : Option (List ℕ)) (n : ℕ) (origins : Bool) (told : List ℕ) (far : Far s kept had now n origins told)
      → IsReplayed its_layers depth prelude form far.script n told
  far_replayed s kept had now n origins told far = record {
    origins = origins;
    rest = far.rest;
    head = head_of n origins far.script far.rest far.lines far.answers far.begun;
    lines = far.lines;
    said = far.said;
    all = (
      far.answers,
      subst (λ (ls : List Line). AreLineAnswers its_layers depth (begun_with prelude) ls far.answers) (append-nil far.lines)
          (subst (λ (xs : List LineAnswer). AreLineAnswers its_layers depth (begun_with prelude) (far.lines ++ []) xs) (append-nil far.answers) (far.more [] [] tt)),
      sym (append-nil told) ∙ sym (far.writes [] [])
          ∙ ap (λ (ls : List Line). all_written form origins (begun_with prelude) ls (far.answers ++ [])) (append-nil far.lines)
          ∙ ap (λ (xs : List LineAnswer). all_written form origins (begun_with prelude) far.lines xs) (append-nil far.answers),
    );
    counted = far.counted;
  }

  -- a script ends
  pub far_ends : (s : State G) (kept : Sources) (had mid left old new : Option (List ℕ)) (n : ℕ) (origins : Bool) (told next : List ℕ) (result : Answered)
      (far : Far s kept had mid n origins told)
      → Consumes mid left next → IsWritten result.«end» (Appends old new) told → HasEnd result.«end» had far.script next → HasCount result.«end» result.lines n
      → Answers its_layers depth prelude form had left (Appends old new) result
  far_ends s kept had mid left old new n origins told next result far read written ends count = record {
    script = far.script;
    next = next;
    count = n;
    told = told;
    read = consumes_more had mid left far.script next far.read read;
    replayed = far_replayed s kept had mid n origins told far;
    written = written;
    ends = ends;
    lines = count;
  }

  -- the next line was not read
  pub not_read : (s : State G) (kept : Sources) (had mid left old new : Option (List ℕ)) (n : ℕ) (origins : Bool) (told bytes : List ℕ) (why : End) → Far s kept had mid n origins told
      → Appends old new told → Consumes mid left bytes → ReadsLine mid bytes (Err why)
      → Answers its_layers depth prelude form had left (Appends old new) (record { lines = n; «end» = why })
  not_read s kept had mid left old new n origins told bytes Whole far written read h =
      far_ends s kept had mid left old new n origins told bytes _ far read written (h.0, all_read had mid far.script far.read h.1) refl
  not_read s kept had mid left old new n origins told bytes ReadFailed far written read h = far_ends s kept had mid left old new n origins told bytes _ far read written tt tt
  not_read s kept had mid left old new n origins told bytes Memory far written read h = far_ends s kept had mid left old new n origins told bytes _ far read written tt tt
  not_read s kept had mid left old new n origins told bytes WriteFailed far written read h = absurd h
  not_read s kept had mid left old new n origins told bytes TooLong far written read h = absurd h
  not_read s kept had mid left old new n origins told bytes (Wrong wrong) far written read h = absurd h

  -- the next line was not answered
  pub not_answered : (s last : State G) (kept have : Sources) (had mid left old now new : Option (List ℕ)) (n : ℕ) (origins : Bool) (told bytes : List ℕ) (why : End)
      → Far s kept had mid n origins told
      → Appends old now told → Consumes mid left bytes → (n ≡ 0 → bytes ≢ asking) → AnswersLine (layers_of answer_of s) s last kept have bytes form origins (Appends now new) (Err why)
      → Answers its_layers depth prelude form had left (Appends old new) (record { lines = n + 1; «end» = why })
  not_answered s last kept have had mid left old now new n origins told bytes (Wrong wrong) far written read other h =
      far_ends s kept had mid left old new n origins told bytes _ far read (subst (Appends old new) (append-nil told) (appends_more old now new told [] written h.1)) h.0 refl
  not_answered s last kept have had mid left old now new n origins told bytes Memory far written read other h =
      far_ends s kept had mid left old new n origins told bytes _ far read (subst (Appends old new) (append-nil told) (appends_more old now new told [] written h)) tt tt
  not_answered s last kept have had mid left old now new n origins told bytes WriteFailed far written read other h =
      far_ends last have had left left old new (n + 1) origins (told ++ h.0) [] _ (far_line s last kept have had mid left n origins told h.0 bytes far read h.1 other)
      (consumes_none left)
      (length told + h.2.0, subst (Appends old new) (sym (take-append-add told h.0 h.2.0)) (appends_more old now new told (take h.2.0 h.0) written h.2.1)) tt tt
  not_answered s last kept have had mid left old now new n origins told bytes Whole far written read other h = absurd h
  not_answered s last kept have had mid left old now new n origins told bytes ReadFailed far written read other h = absurd h
  not_answered s last kept have had mid left old now new n origins told bytes TooLong far written read other h = absurd h

  -- without a session nothing is read
  pub nothing_read : (had old : Option (List ℕ)) → Answers its_layers depth prelude form had had (Appends old old) (record { lines = 0; «end» = Memory })
  nothing_read had old = record {
    script = [];
    next = [];
    count = 0;
    told = [];
    read = consumes_none had;
    replayed = record {
      origins = false;
      rest = [];
      head = (refl, no_head);
      lines = [];
      said = refl;
      all = ([], tt, refl);
      counted = refl;
    };
    written = appends_none old;
    ends = tt;
    lines = tt;
  }
