-- `radio_say::point::say_at` meets its contract: each return by the tests on its way and what the calls give.
use mathlib.Core.List.{[], ◌++◌}
use mathlib.Core.Path.{refl, sym, ap, ◌∙◌}
use Prim.Native.Nat.{ℕ}
use native.Mathlib.Omega.{arith}
use lib.Seq.{length-take-le}
use lib.ListN.{length, take, drop}
use borrow.Author.Tests.{ltb-true}
use Rattle.radio_command.specs.declared.CommandName.TheVariants.{WrFlashByte, WrPrgArea}
use Rattle.radio_say.proofs.Laws.Said.{says_feeds_any, speaks_as, page_byte, says_asks_configuration, says_takes_configuration}
use Rattle.radio_say.proofs.Laws.Said.{says_erases_area, says_erases_configuration, says_sets_configuration, says_byte_0}
use Rattle.radio_say.proofs.Laws.Said.{says_asks_page, says_takes_page, says_byte_1, says_finished, says_at, speaks, speaks_end}
use Rattle.radio_say.proofs.Laws.Said.{command_long, speaks_page}
use Rattle.radio_job.specs.Image.{pages_for}
use Rattle.radio_job.specs.State.{point_fits}
use Rattle.radio_job.specs.Job.{command_message}
use Rattle.radio_job.proofs.Laws.Image.{sized}
use Rattle.radio_say.proofs.point.say_at.Goals as goal

pub returns-in-AsksConfiguration : goal.returns-in-AsksConfiguration
returns-in-AsksConfiguration c = let k = speaks _ _ c.args.out.now _ _ 8 8 (says_at _ _ c.args.at.image.now (take 256 c.args.held.now) _ c.in-AsksConfiguration.is (says_asks_configuration c.args.at.image.now (take 256 c.args.held.now))) (command_long _ _ _ _) c.command.ensures.value c.command.ensures.out_after in
    record { value = k.0; out_after = k.1 }

pub returns-in-TakesConfiguration : goal.returns-in-TakesConfiguration
returns-in-TakesConfiguration c = let k = speaks _ _ c.args.out.now _ [] 0 256 (says_at _ _ c.args.at.image.now (take 256 c.args.held.now) _ c.in-TakesConfiguration.is (says_takes_configuration c.args.at.image.now (take 256 c.args.held.now))) refl c.says.ensures refl in
    record { value = k.0; out_after = k.1 }

pub returns-in-ErasesArea : goal.returns-in-ErasesArea
returns-in-ErasesArea c = let k = speaks _ _ c.args.out.now _ _ 8 8 (says_at _ _ c.args.at.image.now (take 256 c.args.held.now) _ c.in-ErasesArea.is (says_erases_area c.args.at.image.now (take 256 c.args.held.now))) (command_long _ _ _ _) c.command-in-ErasesArea.ensures.value (c.command-in-ErasesArea.ensures.out_after ∙ ap (λ (n : ℕ). command_message WrPrgArea n 0 0 ++ drop 8 c.args.out.now) c.pages_for-pages.ensures) in
    record { value = k.0; out_after = k.1 }

pub feed-requires : goal.feed-requires
feed-requires c = ltb-true _ _ (sym (ap (point_fits (length c.args.at.image.now)) c.in-FeedsPage.is) ∙ c.args.at.point_fits)

pub returns-in-FeedsPage : goal.returns-in-FeedsPage
returns-in-FeedsPage c = let k = speaks_as _ _ _ c.args.out.now _ (says_feeds_any _ _ c.args.at.image.now (take 256 c.args.held.now) c.in-FeedsPage.is (ltb-true _ _ (sym (ap (point_fits (length c.args.at.image.now)) c.in-FeedsPage.is) ∙ c.args.at.point_fits))) c.feed.ensures.value c.feed.ensures.out_after in
    record { value = k.0; out_after = k.1 }

pub returns-in-ErasesConfiguration : goal.returns-in-ErasesConfiguration
returns-in-ErasesConfiguration c = let k = speaks _ _ c.args.out.now _ _ 8 8 (says_at _ _ c.args.at.image.now (take 256 c.args.held.now) _ c.in-ErasesConfiguration.is (says_erases_configuration c.args.at.image.now (take 256 c.args.held.now))) (command_long _ _ _ _) c.command-in-ErasesConfiguration.ensures.value c.command-in-ErasesConfiguration.ensures.out_after in
    record { value = k.0; out_after = k.1 }

pub returns-in-SetsConfiguration : goal.returns-in-SetsConfiguration
returns-in-SetsConfiguration c = let k = speaks_page _ _ c.args.out.now _ (take 256 c.args.held.now) 8 (omega arith) (says_at _ _ c.args.at.image.now (take 256 c.args.held.now) _ c.in-SetsConfiguration.is (says_sets_configuration c.args.at.image.now (take 256 c.args.held.now))) (length-take-le 256 c.args.held.now (omega arith)) c.configuration.ensures.value c.configuration.ensures.out_after in
    record { value = k.0; out_after = k.1 }

pub returns-in-SetsByte0 : goal.returns-in-SetsByte0
returns-in-SetsByte0 c = let k = speaks _ _ c.args.out.now _ _ 8 8 (says_at _ _ c.args.at.image.now (take 256 c.args.held.now) _ c.in-SetsByte0.is (says_byte_0 c.args.at.image.now (take 256 c.args.held.now))) (command_long _ _ _ _) c.command-in-SetsByte0.ensures.value (c.command-in-SetsByte0.ensures.out_after ∙ ap (λ (b : ℕ). command_message WrFlashByte 0x7F 0x00 b ++ drop 8 c.args.out.now) (page_byte c.args.held.now 0 (omega arith))) in
    record { value = k.0; out_after = k.1 }

pub overflow_cast-page : goal.overflow_cast-page
overflow_cast-page c = let l = ltb-true c.in-AsksPage.page (pages_for (length c.args.at.image.now)) (sym (ap (point_fits (length c.args.at.image.now)) c.in-AsksPage.is) ∙ c.args.at.point_fits) in let m = (sized _ c.args.at.image_fits).few in omega (arith, l, m)

pub returns-in-AsksPage : goal.returns-in-AsksPage
returns-in-AsksPage c = let k = speaks _ _ c.args.out.now _ _ 8 8 (says_at _ _ c.args.at.image.now (take 256 c.args.held.now) _ c.in-AsksPage.is (says_asks_page _ c.args.at.image.now (take 256 c.args.held.now) (ltb-true _ _ (sym (ap (point_fits (length c.args.at.image.now)) c.in-AsksPage.is) ∙ c.args.at.point_fits)))) (command_long _ _ _ _) c.command-in-AsksPage.ensures.value c.command-in-AsksPage.ensures.out_after in
    record { value = k.0; out_after = k.1 }

pub returns-in-TakesPage : goal.returns-in-TakesPage
returns-in-TakesPage c = let k = speaks _ _ c.args.out.now _ [] 0 256 (says_at _ _ c.args.at.image.now (take 256 c.args.held.now) _ c.in-TakesPage.is (says_takes_page _ c.args.at.image.now (take 256 c.args.held.now))) refl c.says-in-TakesPage.ensures refl in
    record { value = k.0; out_after = k.1 }

pub returns-in-SetsByte1 : goal.returns-in-SetsByte1
returns-in-SetsByte1 c = let k = speaks _ _ c.args.out.now _ _ 8 8 (says_at _ _ c.args.at.image.now (take 256 c.args.held.now) _ c.in-SetsByte1.is (says_byte_1 c.args.at.image.now (take 256 c.args.held.now))) (command_long _ _ _ _) c.command-in-SetsByte1.ensures.value (c.command-in-SetsByte1.ensures.out_after ∙ ap (λ (b : ℕ). command_message WrFlashByte 0x7F 0x01 b ++ drop 8 c.args.out.now) (page_byte c.args.held.now 1 (omega arith))) in
    record { value = k.0; out_after = k.1 }

pub returns-in-Finished : goal.returns-in-Finished
returns-in-Finished c = let k = speaks_end _ _ c.args.out.now _ (says_at _ _ c.args.at.image.now (take 256 c.args.held.now) _ c.in-Finished.is (says_finished _ c.args.at.image.now (take 256 c.args.held.now))) c.from.ensures in
    record { value = k.0; out_after = k.1 }

pub overflow_cast-pages : goal.overflow_cast-pages
overflow_cast-pages c = let m = (sized _ c.args.at.image_fits).few in let e = c.pages_for-pages.ensures in omega (arith, m, e)
