use Rattle.std.proofs.Common.{◌≡◌, take, drop, map, string_bytes, Some, refl, sym, ◌∙◌, ap}
use Rattle.std.specs.List.{position_or_len}
use Rattle.plural_text.specs.Readings.{is_caret, read_exponent, read_name}
use Rattle.plural_text.proofs.reading.read_power.Goals as goal

pub returns-clause-value : goal.returns-clause-value
returns-clause-value c =
    let text = c.args.text.now in
    let names = map string_bytes c.args.names.now in
    let end = c.name_len.result in
    let ends : position_or_len is_caret text ≡ end = sym c.name_len.ensures.value in
    let exponent : read_exponent (drop end text) ≡ Some c.in_ok-exponent.exponent =
    ap read_exponent (sym c.split_at.ensures.back) ∙ sym c.in_ok-exponent.ensures.value in
    let place : read_name names (take end text) ≡ Some c.in_ok-place.place =
    ap (read_name names) (sym c.split_at.ensures.front) ∙ sym c.in_ok-place.ensures.value in
    rw (ends, exponent, place) refl
