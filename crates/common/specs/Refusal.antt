-- The number of each refusal, and of an outcome that may be one.
use Rattle.std.specs.Prelude.{ℕ, Result, Ok, Err}
use Rattle.common.specs.Numbers.{accepted, broken_setup, wrong_size, not_fit, unlisted_pid, stopped_process}
use Rattle.common.specs.Numbers.{no_site, no_message, wrong_images, short_run_list, no_packet, short_text}
use Rattle.common.specs.Numbers.{wrong_frame, wrong_patch, short_plan, protected_byte}
use Rattle.common.specs.declared.Refusal.{Refusal}
use Rattle.common.specs.declared.Refusal.TheVariants.{BrokenSetup, WrongSize, NotFit, UnlistedPid}
use Rattle.common.specs.declared.Refusal.TheVariants.{StoppedProcess, NoSite, NoMessage, WrongImages}
use Rattle.common.specs.declared.Refusal.TheVariants.{ShortRunList, NoPacket, ShortText, WrongFrame}
use Rattle.common.specs.declared.Refusal.TheVariants.{WrongPatch, ShortPlan, ProtectedByte}

abbrev pub number_of : Refusal → ℕ
number_of BrokenSetup = broken_setup
number_of WrongSize = wrong_size
number_of NotFit = not_fit
number_of UnlistedPid = unlisted_pid
number_of StoppedProcess = stopped_process
number_of NoSite = no_site
number_of NoMessage = no_message
number_of WrongImages = wrong_images
number_of ShortRunList = short_run_list
number_of NoPacket = no_packet
number_of ShortText = short_text
number_of WrongFrame = wrong_frame
number_of WrongPatch = wrong_patch
number_of ShortPlan = short_plan
number_of ProtectedByte = protected_byte

abbrev pub outcome_number : {T : Type 0} → Result T Refusal → ℕ
outcome_number (Ok x) = accepted
outcome_number (Err refusal) = number_of refusal
