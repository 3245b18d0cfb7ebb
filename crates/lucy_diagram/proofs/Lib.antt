mod ListLaws
mod EdgeLaws
mod CallLaws
mod TextLaws
mod LayerLaws
mod LayeringLaws
