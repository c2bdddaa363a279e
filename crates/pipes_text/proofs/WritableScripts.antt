-- A writable script is one that some text has.
use Rattle.std.proofs.Common.{◌≡◌, ◌≤◌, ◌<◌, ◌^◌, ℕ, zero, suc, ◌+◌, max, Bool, true, false, ◌||◌}
use Rattle.std.proofs.Common.{List, [], ◌∷◌, ◌++◌, length, Option, Some, None, refl, sym, ap, subst}
use Rattle.std.proofs.Common.{◌∙◌, arith, cond, nat_lt, length-append, append_assoc, append-nil}
use Rattle.std.proofs.Common.{inl, inr}
use Rattle.std.specs.Prelude.{codes}
use Rattle.std.specs.Fmt.{decimal}
use Rattle.std.specs.List.{position, position_or_len, list_any}
use Rattle.std.specs.Str.{bytes_eq}
use Rattle.std.proofs.lemmas.Bool.{cases_lt, le-ltb}
use Rattle.std.proofs.lemmas.Bool.Decides.{nat_tests}
use Rattle.std.proofs.lemmas.List.Quantifiers.{position-Some}
use Rattle.std.proofs.lemmas.List.Folds.{list_any-append}
use Rattle.pipes_time.specs.Interval.{horizon}
use Rattle.pipes_tuple.specs.Texts.{quoted}
use Rattle.pipes_token.specs.declared.keyword.Keyword.{Keyword as AKeyword}
use Rattle.pipes_token.specs.declared.keyword.Keyword.TheVariants as keyword
use Rattle.pipes_token.specs.declared.token.TokenKind.{TokenKind}
use Rattle.pipes_token.specs.declared.token.TokenKind.TheVariants.{Keyword, Name, Number, Text}
use Rattle.pipes_token.specs.Keywords.{keyword_text}
use Rattle.pipes_token.specs.Writing.{Writes, WritesFreely, IsApart}
use Rattle.pipes_token.proofs.Writing.{write_keyword, write_name, write_number, write_space_after}
use Rattle.pipes_token.proofs.Writing.{write_space_before, write_then, write_apart_then}
use Rattle.pipes_token.proofs.Quoting.{write_quoted}
use Rattle.pipes_reader.specs.Names.{is_taken, AreNew}
use Rattle.pipes_grammar.specs.Grammar.{source_named}
use Rattle.pipes_print.specs.Printed.{AreSpelled}
use Rattle.pipes_print.specs.Writable.{Each}
use Rattle.pipes_reader.specs.Names.{IsSourceName}
use Rattle.pipes_print.proofs.ExprPrinting.{spelled_parts}
use Rattle.pipes_print.proofs.Lines.{spelled_prefix, write_none, free, word_then, text_by}
use Rattle.pipes_print.proofs.WritableExprs.{text_spelled, spelled_text}
use Rattle.pipes_print.proofs.WritablePlans.{NameAt, named_at, none_of_two}
use Rattle.pipes_query.specs.declared.script.Command.{Command}
use Rattle.pipes_query.specs.declared.script.Command.TheVariants as command
use Rattle.pipes_query.specs.declared.script.Mode.{Mode}
use Rattle.pipes_query.specs.declared.script.Script.{Script}
use Rattle.pipes_query.specs.declared.query.Query.{Query}
use Rattle.pipes_query.specs.Queries.{names_of}
use Rattle.pipes_query.proofs.NameLaws.{count_names}
use Rattle.pipes_text.specs.Scripts as grammar
use Rattle.pipes_text.specs.Scripts.{place_or, file_place, files_or, with_file, IsCommand}
use Rattle.pipes_text.specs.Scripts.{AreCommands, IsScriptText}
use Rattle.pipes_text.specs.ScriptTexts.{HasScriptText}
use Rattle.pipes_text.specs.Writable.{IsFileName, IsWritableCommand, NumberFiles, IsWritableScript}
use Rattle.pipes_text.specs.Writable.{IsWritableQuery}
use Rattle.pipes_text.proofs.WritableLaws.{source_names}

-- ---- names that are found or not

short_position : (p : List ℕ → Bool) (xs : List (List ℕ)) → list_any p xs ≡ false
    → position_or_len p xs ≡ length xs
short_position p [] h = refl
short_position p (x ∷ xs) h =
    let w = none_of_two (p x) (list_any p xs) h in
    let rest = short_position p xs w.1 in
    rw w.0 (omega (arith, rest))

not_found : (p : List ℕ → Bool) (xs : List (List ℕ)) → list_any p xs ≡ false
    → position p xs ≡ None
not_found p xs h =
    let over = le-ltb (position_or_len p xs) (length xs) (omega (arith, short_position p xs h)) in
    rw over refl

none_found : (p : List ℕ → Bool) (xs : List (List ℕ)) → position p xs ≡ None
    → list_any p xs ≡ false
none_found p [] h = refl
none_found p (x ∷ xs) h = by (p x) refl (λ rest. none_found p xs rest)
  where
    by : (t : Bool) → p x ≡ t → (position p xs ≡ None → list_any p xs ≡ false)
        → list_any p (x ∷ xs) ≡ false
    by true e rec =
        let t : nat_lt 0 (suc (length xs)) ≡ true = grind (arith, nat_tests) in
        let shown : position p (x ∷ xs)
        ≡ cond (nat_lt 0 (suc (length xs))) (Some 0) None = rw e refl in
        let bad : Some 0 ≡ None = sym (rw t at shown) ∙ h in
        absurd cc
    by false e rec =
        let n = position_or_len p xs in
        elim (cases_lt n (length xs)) [
          | inl under ↦
              let t : nat_lt (1 + n) (suc (length xs)) ≡ true = grind (arith, nat_tests) in
              let shown : position p (x ∷ xs)
              ≡ cond (nat_lt (1 + n) (suc (length xs))) (Some (1 + n)) None = rw e refl in
              let bad : Some (1 + n) ≡ None = sym (rw t at shown) ∙ h in
              absurd cc
          | inr over ↦
              let t : nat_lt n (length xs) ≡ false = grind (arith, nat_tests) in
              let rest : position p xs ≡ None = rw t refl in
              rw e (rec rest)
        ]

-- one more new name
new_after : (taken names : List (List ℕ)) (name : List ℕ) → AreNew taken names
    → is_taken (taken ++ names) name ≡ false → AreNew taken (names ++ (name ∷ []))
new_after taken [] name new free =
    (ap (λ (z : List (List ℕ)). is_taken z name) (sym (append-nil taken)) ∙ free, tt)
new_after taken (other ∷ names) name new free = (
  new.0,
  new_after (taken ++ (other ∷ [])) names name new.1
      (ap (λ (z : List (List ℕ)). is_taken z name) (append_assoc taken (other ∷ []) names) ∙ free),
)

-- the names before one of them are other names
new_before : (taken names : List (List ℕ)) (name : List ℕ) (later : List (List ℕ))
    → AreNew taken (names ++ (name ∷ later)) → is_taken (taken ++ names) name ≡ false
new_before taken [] name later new =
    ap (λ (z : List (List ℕ)). is_taken z name) (append-nil taken) ∙ new.0
new_before taken (other ∷ names) name later new =
    ap (λ (z : List (List ℕ)). is_taken z name) (sym (append_assoc taken (other ∷ []) names))
    ∙ new_before (taken ++ (other ∷ [])) names name later new.1

new_left : (taken names later : List (List ℕ)) → AreNew taken (names ++ later)
    → AreNew taken names
new_left taken [] later new = tt
new_left taken (name ∷ names) later new = (new.0, new_left (taken ++ (name ∷ [])) names later new.1)

each_left : {A : Type 0} (P : A → Type 0) (xs ys : List A) → Each P (xs ++ ys) → Each P xs
each_left P [] ys h = tt
each_left P (x ∷ xs) ys h = (h.0, each_left P xs ys h.1)

each_after : {A : Type 0} (P : A → Type 0) (xs : List A) (y : A) → Each P xs → P y
    → Each P (xs ++ (y ∷ []))
each_after P [] y h k = (k, tt)
each_after P (x ∷ xs) y h k = (h.0, each_after P xs y h.1 k)

each_middle : {A : Type 0} (P : A → Type 0) (xs : List A) (y : A) (ys : List A)
    → Each P (xs ++ (y ∷ ys)) → P y
each_middle P [] y ys h = h.0
each_middle P (x ∷ xs) y ys h = each_middle P xs y ys h.1

-- ---- a script of a text is writable

-- what the files are, before and after commands
pub record Numbered (sources : ℕ) (fs : List (List ℕ)) (cs : List Command) (hs : List (List ℕ))
    : Type 0 where
  pub each : Each (IsWritableCommand sources) cs
  pub files : Each IsFileName hs
  pub once : AreNew [] hs
  pub numbered : NumberFiles (length fs) cs (length hs)

module _ (names : List (List ℕ)) where
  named_below : (word : List ℕ) (i : ℕ) → source_named names word ≡ Some i → i < length names
  named_below word i e = (position-Some (bytes_eq word) names i [] e).0

  -- one more migrate command
  moved_by : (fs : List (List ℕ)) (file : List ℕ) (cs : List Command) (hs : List (List ℕ))
      (o : Option ℕ) → position (bytes_eq file) fs ≡ o → IsFileName file
      → Each IsFileName fs → AreNew [] fs
      → ((gs : List (List ℕ)) → gs ≡ files_or fs file o → Each IsFileName gs → AreNew [] gs
      → Numbered (length names) gs cs hs)
      → Numbered (length names) fs (command.Migrate (place_or (length fs) o) ∷ cs) hs
  moved_by fs file cs hs (Some i) e is files once rest =
      let r = rest fs refl files once in
      let lt = (position-Some (bytes_eq file) fs i [] e).0 in
      let same : length fs ≡ max (length fs) (i + 1) = omega (arith, lt) in
      record {
        each = (tt, r.each);
        files = r.files;
        once = r.once;
        numbered = (
          omega (arith, lt),
          subst (λ (n : ℕ). NumberFiles n cs (length hs)) same r.numbered,
        );
      }
  moved_by fs file cs hs None e is files once rest =
      let r = rest (fs ++ (file ∷ [])) refl (each_after IsFileName fs file files is)
      (new_after [] fs file once (none_found (bytes_eq file) fs e)) in
      let same : length (fs ++ (file ∷ [])) ≡ max (length fs) (length fs + 1) =
      omega (arith, length-append fs (file ∷ [])) in
      record {
        each = (tt, r.each);
        files = r.files;
        once = r.once;
        numbered = (
          omega arith,
          subst (λ (n : ℕ). NumberFiles n cs (length hs)) same r.numbered,
        );
      }

  one_command : (fs gs : List (List ℕ)) (c : Command) (cs : List Command) (hs : List (List ℕ))
      (ks : List TokenKind) → IsCommand names fs c gs ks → AreSpelled ks → Each IsFileName fs
      → AreNew [] fs
      → (Each IsFileName gs → AreNew [] gs → Numbered (length names) gs cs hs)
      → Numbered (length names) fs (c ∷ cs) hs
  one_command _ _ _ cs hs _ (grammar.IsCommand.feed fs w i n e low high) s files once rest =
      let r = rest files once in
      record {
        each = ((named_below w i e, low, high), r.each);
        files = r.files;
        once = r.once;
        numbered = r.numbered;
      }
  one_command _ _ _ cs hs _ (grammar.IsCommand.rest fs) s files once rest =
      let r = rest files once in
      record {
        each = (tt, r.each);
        files = r.files;
        once = r.once;
        numbered = r.numbered;
      }
  one_command _ _ _ cs hs _ (grammar.IsCommand.await fs n high) s files once rest =
      let r = rest files once in
      record {
        each = (high, r.each);
        files = r.files;
        once = r.once;
        numbered = r.numbered;
      }
  one_command _ _ _ cs hs _ (grammar.IsCommand.drain fs) s files once rest =
      let r = rest files once in
      record {
        each = (tt, r.each);
        files = r.files;
        once = r.once;
        numbered = r.numbered;
      }
  one_command _ _ _ cs hs _ (grammar.IsCommand.migrate fs file) s files once rest =
      moved_by fs file cs hs (position (bytes_eq file) fs) refl (spelled_text file s.1.0) files once
      (λ gs e f o.
      subst (λ (z : List (List ℕ)). Numbered (length names) z cs hs) (sym e)
      (rest (subst (λ (z : List (List ℕ)). Each IsFileName z) e f)
      (subst (λ (z : List (List ℕ)). AreNew [] z) e o)))

  commands_back : (fs : List (List ℕ)) (cs : List Command) (hs : List (List ℕ))
      (ks : List TokenKind) → AreCommands names fs cs hs ks → AreSpelled ks → Each IsFileName fs
      → AreNew [] fs → Numbered (length names) fs cs hs
  commands_back _ _ _ _ (grammar.AreCommands.none fs) s files once =
      record { each = tt; files = files; once = once; numbered = refl }
  commands_back _ _ _ _ (grammar.AreCommands.next fs gs hs c cs ks ls is are) s files once =
      let parts = spelled_parts ks ls s in
      one_command fs gs c cs hs ks is parts.0 files once
      (λ f o. commands_back gs cs hs ls are parts.1 f o)

pub script_writable : (q : Query) (mode : Mode) (s : Script) → HasScriptText q mode s
    → IsWritableScript (length q.sources) mode s
script_writable q mode s (bytes, text) =
    let spelled = spelled_prefix (length bytes) bytes text.tokens text.are text.spells.0
    text.spells.2 in
    let is = text.spells.1 in
    let w = commands_back (names_of q.sources) [] s.commands s.files text.spells.0 is.spells spelled
    tt tt in
    record {
      each = subst (λ (n : ℕ). Each (IsWritableCommand n) s.commands) (count_names q.sources)
          w.each;
      of_mode = is.of_mode;
      commands = is.commands;
      moves = is.moves;
      files = w.files;
      once = w.once;
      numbered = w.numbered;
    }

-- ---- a writable script has a text

-- tokens, and bytes that are them wherever they stand
pub record Written (Is : List TokenKind → Type 0) : Type 0 where
  pub kinds : List TokenKind
  pub is : Is kinds
  pub bytes : List ℕ
  pub writes : WritesFreely kinds bytes

number_then : (n : ℕ) → n < 2 ^ 64 → WritesFreely (Number n ∷ []) (decimal n ++ (32 ∷ []))
number_then n small = write_space_after (Number n ∷ []) (decimal n) (write_number n small)

keyword_and_number : (k : AKeyword) (n : ℕ) → n < 2 ^ 64
    → WritesFreely (Keyword k ∷ Number n ∷ [])
    ((keyword_text k ++ (32 ∷ [])) ++ (decimal n ++ (32 ∷ [])))
keyword_and_number k n small =
    write_then free (Keyword k ∷ []) (Number n ∷ []) (keyword_text k ++ (32 ∷ []))
    (decimal n ++ (32 ∷ [])) (word_then k) (number_then n small)

-- all files that commands number are at least those named before
grows : (named files : ℕ) (cs : List Command) → NumberFiles named cs files → named ≤ files
grows named files [] h = omega (arith, h)
grows named files (command.Migrate j ∷ cs) h =
    omega (arith, grows (max named (j + 1)) files cs h.1)
grows named files (command.Feed i n ∷ cs) h = grows named files cs h
grows named files (command.Rest ∷ cs) h = grows named files cs h
grows named files (command.Await n ∷ cs) h = grows named files cs h
grows named files (command.Drain ∷ cs) h = grows named files cs h

module _ (names : List (List ℕ)) (words : Each IsSourceName names) (new_names : AreNew [] names)
  where
    -- a command before others that have a text
    one_more : (fs gs hs : List (List ℕ)) (c : Command) (cs : List Command)
        → Written (IsCommand names fs c gs) → Written (AreCommands names gs cs hs)
        → Written (AreCommands names fs (c ∷ cs) hs)
    one_more fs gs hs c cs w v = record {
      kinds = w.kinds ++ v.kinds;
      is = grammar.AreCommands.next fs gs hs c cs w.kinds v.kinds w.is v.is;
      bytes = w.bytes ++ v.bytes;
      writes = write_then free w.kinds v.kinds w.bytes v.bytes w.writes v.writes;
    }

    feed_written : (fs : List (List ℕ)) (i n : ℕ) → i < length names → 1 ≤ n → n ≤ 4000000
        → Written (IsCommand names fs (command.Feed i n) fs)
    feed_written fs i n lt low high =
        let w = named_at IsSourceName [] names i words new_names lt in
        let word = write_space_after (Name w.word ∷ []) w.word (write_name w.word w.is.0 w.is.1) in
        record {
          kinds = Keyword keyword.Feed ∷ Name w.word ∷ Number n ∷ [];
          is = grammar.IsCommand.feed fs w.word i n w.named low high;
          bytes = (keyword_text keyword.Feed ++ (32 ∷ []))
              ++ ((w.word ++ (32 ∷ [])) ++ (decimal n ++ (32 ∷ [])));
          writes = write_then free (Keyword keyword.Feed ∷ []) (Name w.word ∷ Number n ∷ [])
              (keyword_text keyword.Feed ++ (32 ∷ []))
              ((w.word ++ (32 ∷ [])) ++ (decimal n ++ (32 ∷ []))) (word_then keyword.Feed)
              (write_then free (Name w.word ∷ []) (Number n ∷ []) (w.word ++ (32 ∷ []))
              (decimal n ++ (32 ∷ [])) word (number_then n (omega (arith, high))));
        }

    rest_written : (fs : List (List ℕ)) → Written (IsCommand names fs command.Rest fs)
    rest_written fs = record {
      kinds = Keyword keyword.Rest ∷ [];
      is = grammar.IsCommand.rest fs;
      bytes = keyword_text keyword.Rest ++ (32 ∷ []);
      writes = word_then keyword.Rest;
    }

    await_written : (fs : List (List ℕ)) (n : ℕ) → n ≤ horizon
        → Written (IsCommand names fs (command.Await n) fs)
    await_written fs n high = record {
      kinds = Keyword keyword.Await ∷ Number n ∷ [];
      is = grammar.IsCommand.await fs n high;
      bytes = (keyword_text keyword.Await ++ (32 ∷ [])) ++ (decimal n ++ (32 ∷ []));
      writes = keyword_and_number keyword.Await n (omega (arith, high));
    }

    drain_written : (fs : List (List ℕ)) → Written (IsCommand names fs command.Drain fs)
    drain_written fs = record {
      kinds = Keyword keyword.Drain ∷ [];
      is = grammar.IsCommand.drain fs;
      bytes = keyword_text keyword.Drain ++ (32 ∷ []);
      writes = word_then keyword.Drain;
    }

    move_written : (fs gs : List (List ℕ)) (file : List ℕ) (j : ℕ) → IsFileName file
        → file_place fs file ≡ j → with_file fs file ≡ gs
        → Written (IsCommand names fs (command.Migrate j) gs)
    move_written fs gs file j is e f =
        let made : Written (IsCommand names fs (command.Migrate (file_place fs file))
        (with_file fs file)) = record {
          kinds = Keyword keyword.Migrate ∷ Text file ∷ [];
          is = grammar.IsCommand.migrate fs file;
          bytes = (keyword_text keyword.Migrate ++ (32 ∷ [])) ++ quoted file;
          writes = write_then free (Keyword keyword.Migrate ∷ []) (Text file ∷ [])
              (keyword_text keyword.Migrate ++ (32 ∷ [])) (quoted file) (word_then keyword.Migrate)
              (write_quoted file (text_spelled file is.0 is.1));
        } in
        subst (λ (z : List (List ℕ)). Written (IsCommand names fs (command.Migrate j) z)) f
        (subst (λ (i : ℕ). Written (IsCommand names fs (command.Migrate i) (with_file fs file))) e
        made)

    -- a file that was named before
    old_written : (fs more : List (List ℕ)) (j : ℕ) → Each IsFileName (fs ++ more)
        → AreNew [] (fs ++ more) → j < length fs
        → Written (IsCommand names fs (command.Migrate j) fs)
    old_written fs more j files once lt =
        let w = named_at IsFileName [] fs j (each_left IsFileName fs more files)
        (new_left [] fs more once) lt in
        move_written fs fs w.word j w.is
        (ap (λ (o : Option ℕ). place_or (length fs) o) w.named)
        (ap (λ (o : Option ℕ). files_or fs w.word o) w.named)

    -- the next file
    new_written : (fs : List (List ℕ)) (file : List ℕ) (more : List (List ℕ)) (j : ℕ)
        → Each IsFileName (fs ++ (file ∷ more)) → AreNew [] (fs ++ (file ∷ more)) → length fs ≡ j
        → Written (IsCommand names fs (command.Migrate j) (fs ++ (file ∷ [])))
    new_written fs file more j files once e =
        let none = not_found (bytes_eq file) fs (new_before [] fs file more once) in
        move_written fs (fs ++ (file ∷ [])) file j (each_middle IsFileName fs file more files)
        (ap (λ (o : Option ℕ). place_or (length fs) o) none ∙ e)
        (ap (λ (o : Option ℕ). files_or fs file o) none)

    commands_written : (cs : List Command) (fs more : List (List ℕ))
        → Each (IsWritableCommand (length names)) cs → Each IsFileName (fs ++ more)
        → AreNew [] (fs ++ more) → NumberFiles (length fs) cs (length (fs ++ more))
        → Written (AreCommands names fs cs (fs ++ more))
    commands_written [] fs [] each files once h =
        subst (λ (z : List (List ℕ)). Written (AreCommands names fs [] z)) (sym (append-nil fs))
        (record {
          kinds = [];
          is = grammar.AreCommands.none fs;
          bytes = [];
          writes = write_none;
        })
    commands_written [] fs (file ∷ more) each files once h =
        absurd (omega (arith, h, length-append fs (file ∷ more)))
    commands_written (command.Feed i n ∷ cs) fs more each files once h =
        one_more fs fs (fs ++ more) (command.Feed i n) cs
        (feed_written fs i n each.0.0 each.0.1 each.0.2)
        (commands_written cs fs more each.1 files once h)
    commands_written (command.Rest ∷ cs) fs more each files once h =
        one_more fs fs (fs ++ more) command.Rest cs (rest_written fs)
        (commands_written cs fs more each.1 files once h)
    commands_written (command.Await n ∷ cs) fs more each files once h =
        one_more fs fs (fs ++ more) (command.Await n) cs (await_written fs n each.0)
        (commands_written cs fs more each.1 files once h)
    commands_written (command.Drain ∷ cs) fs more each files once h =
        one_more fs fs (fs ++ more) command.Drain cs (drain_written fs)
        (commands_written cs fs more each.1 files once h)
    commands_written (command.Migrate j ∷ cs) fs more each files once h =
        elim (cases_lt j (length fs)) [
          | inl under ↦
              let same : max (length fs) (j + 1) ≡ length fs = omega (arith, under) in
              one_more fs fs (fs ++ more) (command.Migrate j) cs
              (old_written fs more j files once under)
              (commands_written cs fs more each.1 files once
              (subst (λ (n : ℕ). NumberFiles n cs (length (fs ++ more))) same h.1))
          | inr over ↦ next (λ gs left f o k. commands_written cs gs left each.1 f o k) more files
              once h over
        ]
      where
        next : ((gs left : List (List ℕ)) → Each IsFileName (gs ++ left) → AreNew [] (gs ++ left)
            → NumberFiles (length gs) cs (length (gs ++ left))
            → Written (AreCommands names gs cs (gs ++ left)))
            → (more : List (List ℕ)) → Each IsFileName (fs ++ more) → AreNew [] (fs ++ more)
            → (j ≤ length fs) × NumberFiles (max (length fs) (j + 1)) cs (length (fs ++ more))
            → length fs ≤ j → Written (AreCommands names fs (command.Migrate j ∷ cs) (fs ++ more))
        next others [] files once h over =
            absurd (omega (
              arith,
              over,
              grows (max (length fs) (j + 1)) (length (fs ++ [])) cs h.1,
              length-append fs [],
            ))
        next others (file ∷ more) files once h over =
            let gs = fs ++ (file ∷ []) in
            let whole : gs ++ more ≡ fs ++ (file ∷ more) = append_assoc fs (file ∷ []) more in
            let count : max (length fs) (j + 1) ≡ length gs =
            omega (arith, over, h.0, length-append fs (file ∷ [])) in
            let named : NumberFiles (length gs) cs (length (fs ++ (file ∷ more))) =
            subst (λ (n : ℕ). NumberFiles n cs (length (fs ++ (file ∷ more)))) count h.1 in
            one_more fs gs (fs ++ (file ∷ more)) (command.Migrate j) cs
            (new_written fs file more j files once (omega (arith, over, h.0)))
            (subst (λ (z : List (List ℕ)). Written (AreCommands names gs cs z)) whole
            (others gs more
            (subst (λ (z : List (List ℕ)). Each IsFileName z) (sym whole) files)
            (subst (λ (z : List (List ℕ)). AreNew [] z) (sym whole) once)
            (subst (λ (z : List (List ℕ)). NumberFiles (length gs) cs (length z)) (sym whole)
            named)))

pub script_has_text : (q : Query) (mode : Mode) (s : Script) → IsWritableQuery q
    → IsWritableScript (length q.sources) mode s → HasScriptText q mode s
script_has_text q mode s over is =
    let names = names_of q.sources in
    let w = commands_written names (source_names q.sources over.each) over.once s.commands []
    s.files
    (subst (λ (n : ℕ). Each (IsWritableCommand n) s.commands) (sym (count_names q.sources)) is.each)
    is.files is.once is.numbered in (
      w.bytes,
      text_by (IsScriptText names mode) s w.kinds w.bytes
          (record {
            spells = w.is;
            of_mode = is.of_mode;
            commands = is.commands;
            moves = is.moves;
          }) w.writes,
    )
