-- Scripts, written out.
use Rattle.std.specs.Prelude.{◌≡◌, codes}
use Rattle.std.proofs.Common.{refl}
use Rattle.std.specs.Fmt.{digits}
use Rattle.case_maker.specs.Scripts.{draw_after, sum_text, made_script}

pub script_of_0 : made_script 0
    ≡ codes "ring r = 32003,(x,y,a,b,z),dp;\nmatrix D[5][5];\nD[1,3] = z; D[2,4] = z;\ndef H = nc_algebra(1,D);\nsetring H;\nsummary(75*z*a+91*y*z,32*z*z+51*z*y,35*y*a+41*b*z);\n"
unfolding digits draw_after sum_text
script_of_0 = refl
