-- How a run comes to its reply, and how it ends with one.
use Rattle.std.proofs.Common.{◌≡◌, ℕ, ◌≤◌, true, false, List, [], Option, Some, None, take, refl, sym, ap, subst, ◌∙◌}
use Rattle.case_maker.specs.Scripts.{made_script}
use Rattle.command_words.specs.declared.settings.Program.{Program}
use Rattle.command_words.specs.declared.settings.Settings.{Settings}
use Rattle.command_words.specs.Settings.{settings_of}
use Rattle.plural_io.specs.Faults.{Rose}
use Rattle.plural_io.specs.Reads.{behind_all}
use Rattle.word_model.specs.Answers.{Answer}
use Rattle.script_model.specs.Scripts.{IsAnswer}
use Rattle.program_model.specs.Replies.{refused, made, read, words_answer, asks_source, reads_source}
use Rattle.program_model.specs.Runs.{SourceSeen, SinkSeen, IsReadOut, HasRead, IsReplied, IsUndisturbed, whole, IsRun, write_failed}
use Rattle.program_model.proofs.OneReply.{reply-status}

-- the words ask for the source exactly where they are not refused and ask for no made script
pub refused-asks : (o : Option Settings) → o ≡ None → asks_source o ≡ false
refused-asks o e = ap asks_source e

pub made-asks : (o : Option Settings) (s : Settings) (k : ℕ) → o ≡ Some s → s.make ≡ Some k → asks_source o ≡ false
made-asks o s k e m = ap asks_source e ∙ ap (λ make. asks_source (Some (record { workers = s.workers; pairs = s.pairs; make = make }))) m

pub read-asks : (o : Option Settings) (s : Settings) → o ≡ Some s → s.make ≡ None → asks_source o ≡ true
read-asks o s e m = ap asks_source e ∙ ap (λ make. asks_source (Some (record { workers = s.workers; pairs = s.pairs; make = make }))) m

module _ (program : Program) (words : List (List ℕ)) (source : SourceSeen) where
  unread : reads_source program words ≡ false → HasRead (reads_source program words) [] source source
  unread e = subst (λ b. HasRead b [] source source) (sym e) refl

  pub words_replied : settings_of program words ≡ None → IsReplied program words source source (words_answer program)
  words_replied e = record { bytes = []; read = unread (refused-asks _ e); reply = refused e }

  pub made_replied : (s : Settings) (k : ℕ) (a : Answer) → settings_of program words ≡ Some s → s.make ≡ Some k → IsAnswer s.pairs (made_script k) a
      → IsReplied program words source source a
  made_replied s k a e m x = record { bytes = []; read = unread (made-asks _ s k e m); reply = made s k a e m x }

  module _ (source' : SourceSeen) where
    pub source_replied : (s : Settings) (bytes : List ℕ) (a : Answer) → settings_of program words ≡ Some s → s.make ≡ None → IsReadOut bytes source source' → IsAnswer s.pairs bytes a
        → IsReplied program words source source' a
    source_replied s bytes a e m out x = record {
      bytes = bytes;
      read = subst (λ b. HasRead b bytes source source') (sym (read-asks _ s e m)) out;
      reply = read s a e m x;
    }

    module _ (a : Answer) (replied : IsReplied program words source source' a) where
      pub replied-status : a.status ≤ 4
      replied-status = reply-status program words replied.bytes a replied.reply

      module _ (sink sink' : SinkSeen) where
        -- the whole text was written
        pub text_written : (status : ℕ) → status ≡ a.status → sink'.held ≡ behind_all sink.held a.text → IsUndisturbed program words source source' sink sink' status
        text_written status is held = subst (IsUndisturbed program words source source' sink sink') (sym is) (whole a replied held)

        -- a write failed
        pub text_cut : (n : ℕ) → Rose sink.faults sink'.faults → sink'.held ≡ behind_all sink.held (take n a.text) → IsRun program words source source' sink sink' 6
        text_cut n rose held = write_failed a n replied rose held
