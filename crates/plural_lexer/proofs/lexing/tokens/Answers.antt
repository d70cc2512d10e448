use Rattle.std.proofs.Common.{◌≡◌, ◌+◌, ◌-◌, ◌∙◌, length, take, drop, ap, refl, arith, length-take, length-drop}
use Rattle.std.proofs.lemmas.List.{take_rest}
use Rattle.plural_lexer.specs.declared.pieces.Piece.TheVariants as piece
use Rattle.plural_lexer.specs.declared.token.TokenKind.TheVariants.{End}
use Rattle.plural_lexer.specs.Pieces.{piece}
use Rattle.plural_lexer.proofs.Lexings.{past_blank, past_token, at_fault, at_end, place_small, place_plus, gives_fault, same_token, piece_within, token_within}
use Rattle.plural_lexer.proofs.lexing.tokens.Goals as goal
use Rattle.plural_lexer.proofs.lexing.tokens.Goals.{in-Blank, in-Token+in_ok-push-in-Token}

pub returns : goal.returns
returns c =
    let e = at_end c.args.bytes.now c.loop-at.at c.loop-at.found.items (omega arith) c.loop-at.invariant.goes_on in
    let t = c.token_at-2.ensures ∙ same_token End c.args.bytes.now c.loop-at.at (c.loop-at.at + 0) 0 c.loop-at.place c.loop-at.invariant.within refl c.loop-at.invariant.place in
    rw (c.in_ok-push.ensures, t) e

pub returns-in-Fault : goal.returns-in-Fault
returns-in-Fault c =
    let r = ap piece (take_rest c.args.bytes.now c.loop-at.at) in
    let p : piece (drop c.loop-at.at c.args.bytes.now) ≡ piece.Fault c.in-Fault.cause = cc (r, c.front_piece.ensures.value, c.in-Fault.is) in
    rw (c.fault_at.ensures, c.loop-at.invariant.place) (gives_fault _ _ _ (at_fault c.args.bytes.now c.loop-at.at c.loop-at.found.items c.in-Fault.cause (omega arith) p c.loop-at.invariant.goes_on))

pub moved-place-requires-clause-line : goal.moved-place-requires-clause-line
moved-place-requires-clause-line c =
    let b = place_small c.loop-at.place c.loop-at.at c.args.bytes.now c.loop-at.invariant.within c.loop-at.invariant.place in
    rw take_rest (omega (arith, b.0, length-take c.match-front_piece.len (drop c.loop-at.at c.args.bytes.now), length-drop c.loop-at.at c.args.bytes.now))

pub moved-place-requires-clause-column : goal.moved-place-requires-clause-column
moved-place-requires-clause-column c =
    let b = place_small c.loop-at.place c.loop-at.at c.args.bytes.now c.loop-at.invariant.within c.loop-at.invariant.place in
    rw take_rest (omega (arith, b.1, length-take c.match-front_piece.len (drop c.loop-at.at c.args.bytes.now), length-drop c.loop-at.at c.args.bytes.now))

pub loop-at-preserved : goal.loop-at-preserved
loop-at-preserved c =
    let r = ap piece (take_rest c.args.bytes.now c.loop-at.at) in
    let rest = take (length c.args.bytes.now - c.loop-at.at) (drop c.loop-at.at c.args.bytes.now) in
    let long : length rest + c.loop-at.at ≡ length c.args.bytes.now = omega (arith, ap length (take_rest c.args.bytes.now c.loop-at.at), length-drop c.loop-at.at c.args.bytes.now) in
    record {
      within = elim c.match-front_piece.branch [
        | in-Blank w ↦ let h = piece_within rest _ _ c.front_piece.ensures.within w.in-Blank.is in omega (arith, w.len-is, h.1)
        | in-Token+in_ok-push-in-Token w ↦ let h = token_within rest _ _ _ c.front_piece.ensures.within w.in-Token.is in omega (arith, w.len-is, h.1)
      ];
      place = c.moved-place.ensures ∙ rw take_rest (place_plus c.loop-at.place c.loop-at.at c.match-front_piece.len c.args.bytes.now c.loop-at.invariant.place);
      goes_on = elim c.match-front_piece.branch [
        | in-Blank w ↦ rw (w.found-is, w.len-is) (past_blank c.args.bytes.now c.loop-at.at w.in-Blank.len c.loop-at.found.items (omega arith) (cc (r, c.front_piece.ensures.value, w.in-Blank.is)) c.loop-at.invariant.goes_on)
        | in-Token+in_ok-push-in-Token w ↦
            let t = w.token_at.ensures ∙ same_token w.in-Token.kind c.args.bytes.now c.loop-at.at (c.loop-at.at + w.in-Token.len) w.in-Token.len c.loop-at.place c.loop-at.invariant.within refl c.loop-at.invariant.place in
            rw (w.found-is, w.len-is, w.in_ok-push-in-Token.ensures, t) (past_token c.args.bytes.now c.loop-at.at w.in-Token.len c.loop-at.found.items w.in-Token.kind (omega arith) (cc (r, c.front_piece.ensures.value, w.in-Token.is)) c.loop-at.invariant.goes_on)
      ];
    }
