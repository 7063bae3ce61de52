-- What is mounted anew shows the same in every world that a script leads to, since each has the invariants.
use Rattle.std.proofs.Common.{ℕ, nat_eq}
use Rattle.vt_spec.proofs.Common.{IsWorld, World}
use Rattle.vt_laws_worlds.proofs.merging.mounted.Again.{mounted_anew_shows_the_same, mounted_over_the_same_layers}
use Rattle.vt_laws_worlds.proofs.merging.mounted.Links.{mounted_anew_links_the_same}
use Rattle.vt_laws_worlds.specs.OverlayPermits.MountedOverScripts.{IsLedTo, LinksOverScripts, MountedAnewOverScripts, SameLayersOverScripts}
use Rattle.vt_laws_worlds.proofs.overlay_permits.worlds.EveryScript.{every_script_leads_to_worlds}

led_to_a_world : (world : World ℕ) → IsLedTo world → IsWorld nat_eq world
led_to_a_world world led =
    every_script_leads_to_worlds led.grammar led.lines led.refused led.fresh world led.apart led.leads

pub mounted_anew_over_scripts : MountedAnewOverScripts
mounted_anew_over_scripts fresh before later number left task path words flags places led is later_led =
    mounted_anew_shows_the_same fresh before later number left task path words flags places
    (led_to_a_world before led) is (led_to_a_world later later_led)

pub same_layers_over_scripts : SameLayersOverScripts
same_layers_over_scripts fresh before later number left task path words flags places led is later_led =
    mounted_over_the_same_layers fresh before later number left task path words flags places
    (led_to_a_world before led) is (led_to_a_world later later_led)

pub links_over_scripts : LinksOverScripts
links_over_scripts fresh before later number left task path words flags places led is later_led =
    mounted_anew_links_the_same fresh before later number left task path words flags places
    (led_to_a_world before led) is (led_to_a_world later later_led)
