-- `text_packet::Packet::put_text` meets its contract: the five pieces, one after the other. Assumes nothing.
use mathlib.Core.List.{[], ◌∷◌}
use native.Mathlib.Omega.{arith}
use Rattle.text_packet.specs.Packet.{blank, number_text}
use Rattle.text_packet.proofs.Stores.{first_piece, next_piece}
use Rattle.text_packet.proofs.Texts.{text_most_lem, pieces}
use Rattle.text_packet.proofs.Packet.put_text.Goals as goal

pub returns : goal.returns
returns c =
    let a = c.args in
    let h1 = first_piece (number_text a.self.pid)
    (c.put_number-letter_at.ensures.value.0, c.put_number-letter_at.ensures.buffer_after) in
    let h2 = next_piece h1 (blank ∷ a.self.letter ∷ blank ∷ [])
    (c.put-third_at.ensures.value, c.put-third_at.ensures.buffer_after) in
    let h3 = next_piece h2 (number_text a.self.third)
    (c.put_number-blank_at.ensures.value.0, c.put_number-blank_at.ensures.buffer_after) in
    let h4 = next_piece h3 (blank ∷ []) (c.put-fourth_at.ensures.value, c.put-fourth_at.ensures.buffer_after) in
    let h5 = next_piece h4 (number_text a.self.fourth)
    (c.put_number.ensures.value.0, c.put_number.ensures.buffer_after) in
    let h = rw (pieces a.self) at h5 in record
    { value = (omega (arith, h.next), omega (arith, h.next, text_most_lem a.self)); buffer_after = h.buffer }
